-- The laws in the form in which they are told.
use Rattle.std.specs.Prelude.{◌≡◌, ℕ, true, List, [], ◌∷◌, map, length, Option, refl}
use Rattle.std.proofs.Common.{ap, sym, ◌∙◌}
use Rattle.tez_ids.specs.declared.VertexId.{VertexId}
use Rattle.tez_ids.specs.declared.AttemptId.{AttemptId}
use Rattle.tez_ids.specs.Same.{task}
use Rattle.tez_events.specs.declared.StopCause.{StopCause}
use Rattle.tez_events.specs.declared.Entry.{Entry}
use Rattle.tez_events.specs.declared.Entry.TheVariants.{Opened, Over, Stopped, Stands, Kept}
use Rattle.tez_events.specs.declared.CoreEvent.TheVariants.{Configure}
use Rattle.tez_lists.proofs.Tables.{map_below, map_each}
use Rattle.tez_plan.specs.Dag.{Dag, tasks_of as planned}
use Rattle.tez_conf.specs.declared.values.ConfValues.{ConfValues}
use Rattle.tez_vman.specs.Rules.{config as shape}
use Rattle.std.specs.Prelude.{unwrap_or}
use Rattle.tez_history.specs.Shape.{numbers_below}
use Rattle.tez_history.specs.History.{Past, extend, winner}
use Rattle.tez_history.specs.Derived.{starts_epoch, configures, waiting_attempts}
use Rattle.tez_history.specs.Steps.{enabled, entries_of}
use Rattle.tez_history.specs.Follows.{IsMade, MayFollow}
use Rattle.tez_router.specs.State.{RouterState, LinkState, AdmittedState}
use Rattle.tez_router.specs.Planned.{planned_router}
use Rattle.tez_router.specs.Table.{after_announce}
use Rattle.tez_router_view.specs.View.{router_view, links_view, winners_view, admitted_view, FitsPlan}
use Rattle.tez_router_view.specs.Events.{no_winner, after_stop}
use Rattle.tez_router_view.proofs.Beginning.{planned_view}
use Rattle.tez_router_view.proofs.Configuring.{Sets, stands_view}
use Rattle.tez_router_view.proofs.Keeping.{fits_configured, fits_stands}
use Rattle.tez_router_view.proofs.Moving.{kept_view}
use Rattle.tez_router_view.proofs.Opening.{nobody}
use Rattle.tez_router_view.proofs.Ordering.{vertex_below}
use Rattle.tez_router_view.proofs.Winners.{task_vertex}
use Rattle.tez_router_view.proofs.ByEvent.{configure_sets}

pub first_view : (g : Dag) → router_view g [] ≡ planned_router g
first_view g = planned_view g [] (λ v. refl) (λ t. refl) (λ t. refl)

pub start_view : (g : Dag) (past : Past) (e : Entry) → starts_epoch e ≡ true → router_view g (e ∷ past) ≡ planned_router g
start_view g past (Opened n) h = planned_view g (Opened n ∷ past) (λ v. refl) (λ t. refl) (λ t. refl)
start_view g past Over h = planned_view g (Over ∷ past) (λ v. refl) (λ t. refl) (λ t. refl)
start_view g past _ h = cc

abbrev with_links : List LinkState → List (List (Option AttemptId)) → List AdmittedState → RouterState
with_links ls rows xs = record { links = ls; winners = rows; admitted = xs }

none_won : (g : Dag) (past : Past) (cause : StopCause) → winners_view g (Stopped cause ∷ past) ≡ map (map no_winner) (winners_view g past)
none_won g past cause =
    sym
    (map_each (map no_winner) (λ v. map (λ i. winner (task v i) past) (numbers_below (planned g v))) 0 (length g.vertices)
    ∙ map_below (λ v. map no_winner (map (λ i. winner (task v i) past) (numbers_below (planned g v)))) (λ v. map (λ i. winner (task v i) (Stopped cause ∷ past)) (numbers_below (planned g v))) 0 (length g.vertices)
    (λ v _ _. map_each no_winner (λ i. winner (task v i) past) 0 (planned g v)))

pub stop_view : (g : Dag) (past : Past) (cause : StopCause) → router_view g (Stopped cause ∷ past) ≡ after_stop (router_view g past)
stop_view g past cause =
    ap (λ rows. with_links (links_view g past) rows (map (admitted_view g (Stopped cause ∷ past)) (waiting_attempts g (Stopped cause ∷ past)))) (none_won g past cause)
    ∙ ap (λ xs. with_links (links_view g past) (map (map no_winner) (winners_view g past)) (map (admitted_view g (Stopped cause ∷ past)) xs)) (nobody g (Stopped cause ∷ past) (λ t. refl))

pub kept_announces : (g : Dag) (c : ConfValues) (past : Past) (a : AttemptId) → IsMade g c past → MayFollow g c past (Kept a) → after_announce (router_view g past) a ≡ router_view g (Kept a ∷ past)
kept_announces g c past a m may = kept_view g past a (vertex_below g a.task.vertex.0 (task_vertex g c past m a.task may.1))

pub configured : (g : Dag) (c : ConfValues) (past : Past) (v : VertexId) → IsMade g c past → enabled g c past (Configure v) ≡ true → FitsPlan g (extend past (entries_of g c past (Configure v)))
    → Sets g v.0 past (extend past (entries_of g c past (Configure v)))
configured g c past v m on fits =
    let s = unwrap_or (configures g c v.0 past) (shape 0 0) in configure_sets g c past v m on (fits_configured g v s.tasks s.base past fits)

pub stands_again : (g : Dag) (c : ConfValues) (past : Past) (v : VertexId) (n b : ℕ) → IsMade g c past → MayFollow g c past (Stands v n b) → FitsPlan g (Stands v n b ∷ past) → Sets g v.0 past (Stands v n b ∷ past)
stands_again g c past v n b m may fits = stands_view g c past m v n b may.0 (fits_stands g v n b past fits)
