-- A fetch finds the pieces, or the winner behind it is withdrawn.
use Rattle.std.specs.Prelude.{◌≡◌, ℕ, Bool, true, false, not, ◌&&◌, ◌==◌, if◌then◌else◌, List, [], ◌∷◌, Option, Some, None, is_some, refl}
use Rattle.std.specs.Option.{option_map_or}
use Rattle.std.proofs.Common.{ap, sym, ◌∙◌, subst}
use Rattle.tez_ids.specs.declared.AttemptId.{AttemptId}
use Rattle.tez_ids.specs.declared.EdgeId.{EdgeId}
use Rattle.tez_plan.specs.Dag.{Dag, edge}
use Rattle.tez_conf.specs.declared.values.ConfValues.{ConfValues}
use Rattle.tez_events.specs.declared.Entry.{Entry}
use Rattle.tez_events.specs.declared.Entry.TheVariants.{Fetched, ReadError}
use Rattle.tez_events.specs.declared.CoreEvent.TheVariants.{Fetch}
use Rattle.tez_history.specs.Shape.{has_edge_out}
use Rattle.tez_history.specs.History.{Past, Location, Nowhere, On, InQuestion, extend, stage, winner, location, is_fetched}
use Rattle.tez_history.specs.Derived.{is_waiting, is_stored, is_on_slot as is_stored_on_slot, is_on_shelf as is_shelved, is_on_node, source_of_input}
use Rattle.tez_history.specs.Steps.{enabled, entries_of, is_running, withdrawal, fetch_entries, winner_behind}
use Rattle.tez_history.specs.Follows.{IsMade}
use Rattle.tez_laws.proofs.Tasks.{winner_task}
use Rattle.tez_laws.proofs.StepLaw.{both}
use Rattle.tez_vertex_view.proofs.Losing.{withdrawn_fact, found_step, missed_step}
use Rattle.tez_pool_view.proofs.Stepping.{other_step}
use Rattle.tez_router_view.specs.View.{FitsPlan}
use Rattle.tez_router_view.proofs.Sources.{behind}
use Rattle.tez_router_view.proofs.Reading.{source_read}
use Rattle.tez_router_view.proofs.ByEvent.{fetch_marks, read_error_withdraws}
use Rattle.tez_router_view.proofs.Winners.{won_vertex}
use Rattle.tez_schedule_view.proofs.ByEvent.{fetched_view, error_view}
use Rattle.tez_master_model.specs.Read.{is_on_shelf, is_on_slot, source_in}
use Rattle.tez_master_model.specs.Settled.{after_fetch, withdrawn}
use Rattle.tez_master_view.specs.View.{master_view, slot_by, locations_view}
use Rattle.tez_master_view.specs.Laws.{Goes}
use Rattle.tez_master_view.proofs.Own.{location_read, withdrawn_locations, withdrawn_readied, readied_view}
use Rattle.tez_master_view.proofs.Simple.{Settles, settles, rest}

-- ---- where the pieces of a winner lie

locations_by : (l : Location) → is_some (slot_by l) ≡ is_stored l
locations_by Nowhere = refl
locations_by (On s) = refl
locations_by (InQuestion s) = refl

slot_is : (slot : ℕ) (l : Location) → option_map_or (λ s. s == slot) (slot_by l) false ≡ is_stored_on_slot slot l
slot_is slot Nowhere = refl
slot_is slot (On s) = refl
slot_is slot (InQuestion s) = refl

pub shelf_read : (g : Dag) (c : ConfValues) (past : Past) (w : AttemptId) → IsMade g c past → FitsPlan g past → winner w.task past ≡ Some w → is_on_shelf (master_view g c past) w ≡ is_shelved g c past w
shelf_read g c past w m fits won = ap (λ b. has_edge_out g w.task.vertex.0 && b) (ap is_some (location_read g c past w m fits won) ∙ locations_by (location c w past))

pub slot_read : (g : Dag) (c : ConfValues) (past : Past) (slot : ℕ) (w : AttemptId) → IsMade g c past → FitsPlan g past → winner w.task past ≡ Some w → is_on_slot (master_view g c past) slot w ≡ is_on_node g c past slot w
slot_read g c past slot w m fits won =
    ap (λ b. has_edge_out g w.task.vertex.0 && b) (ap (λ o. option_map_or (λ s. s == slot) o false) (location_read g c past w m fits won) ∙ slot_is slot (location c w past))

pub source_is : (g : Dag) (c : ConfValues) (past : Past) (a : AttemptId) (e i : ℕ) → IsMade g c past → FitsPlan g past → source_in (master_view g c past) a e i ≡ winner_behind g past a e i
source_is g c past a e i m fits = sym (source_read g c past m fits a e i)

-- ---- a withdrawal leaves the rest

pub withdrawn_rest : (g : Dag) (past : Past) (w : AttemptId) → rest g past ≡ rest g (extend past (withdrawal g past w))
withdrawn_rest g past w = sym (withdrawn_fact g past w (λ p. rest g p) (λ p a e i x. refl) (λ p. refl))

-- ---- the event

pub won_behind : (g : Dag) (past : Past) (a : AttemptId) (e i : ℕ) (w : AttemptId) → winner_behind g past a e i ≡ Some w → winner w.task past ≡ Some w
won_behind g past a e i w h = let r = behind g past a e i w h in subst (λ t. winner t past ≡ Some w) (sym (winner_task past (source_of_input g past a r.at) w r.won)) r.won

abbrev found_or : Dag → Past → AttemptId → EdgeId → ℕ → AttemptId → Bool → List Entry
found_or g past a e i w b = if b then Fetched a (edge e.0) i w ∷ [] else ReadError a (edge e.0) i w ∷ withdrawal g (ReadError a (edge e.0) i w ∷ past) w

pub fetch_settles : (g : Dag) (c : ConfValues) (past : Past) (a : AttemptId) (e : EdgeId) (i : ℕ) → Goes g c past → enabled g c past (Fetch a e i) ≡ true → Settles g c past (Fetch a e i)
fetch_settles g c past a e i go on =
    ap (after_fetch (master_view g c past) a e.0 i) (source_is g c past a e.0 i m go.plan) ∙ by (winner_behind g past a e.0 i) refl
  where
    m : IsMade g c past
    m = go.sound.made

    some : is_some (winner_behind g past a e.0 i) ≡ true
    some =
        let k = both {x = is_running past} on in
        let l = both {x = is_waiting (stage a past)} k.1 in
        (both {x = not (is_fetched a e.0 i past)} l.1).1

    later : Past
    later = extend past (entries_of g c past (Fetch a e i))

    same : (w : AttemptId) (b : Bool) → winner_behind g past a e.0 i ≡ Some w → is_shelved g c past w ≡ b → found_or g past a e i w b ≡ entries_of g c past (Fetch a e i)
    same w b is on_shelf = sym (ap (fetch_entries g c past a e.0 i) is ∙ ap (found_or g past a e i w) on_shelf)

    found : (w : AttemptId) → winner_behind g past a e.0 i ≡ Some w → (b : Bool) → is_shelved g c past w ≡ b
        → (if b then record (master_view g c past) { router = Rattle.tez_router.specs.Table.after_fetched (Rattle.tez_router_view.specs.View.router_view g past) a e.0 i } else withdrawn (master_view g c past) w) ≡ master_view g c (extend past (entries_of g c past (Fetch a e i)))
    found w is true there =
        let es = same w true is there in
        settles g c past (extend past (entries_of g c past (Fetch a e i))) (sym (found_step g c past a e i w is there)) (sym (other_step g c past (Fetch a e i) tt m on)) (fetch_marks g c past a e i w is there) (sym (fetched_view g c past a e i w is there))
        (ap (λ xs. locations_view g c (extend past xs)) es) (ap (λ xs. readied_view g (extend past xs)) es) (ap (λ xs. rest g (extend past xs)) es)
    found w is false gone =
        let es = same w false is gone in
        let won = won_behind g past a e.0 i w is in
        let at : Past = ReadError a (edge e.0) i w ∷ past in
        settles g c past (extend past (entries_of g c past (Fetch a e i))) (sym (missed_step g c past a e i w m go.sound.few on is gone)) (sym (other_step g c past (Fetch a e i) tt m on)) (read_error_withdraws g c past a e i w m on is gone) (error_view g c past a e i w m go.plan on is gone)
        (withdrawn_locations g c at w (won_vertex g c past m w.task w won) won ∙ ap (λ xs. locations_view g c (extend past xs)) es) (withdrawn_readied g at w ∙ ap (λ xs. readied_view g (extend past xs)) es) (withdrawn_rest g at w ∙ ap (λ xs. rest g (extend past xs)) es)

    by : (o : Option AttemptId) → winner_behind g past a e.0 i ≡ o → after_fetch (master_view g c past) a e.0 i (winner_behind g past a e.0 i) ≡ master_view g c (extend past (entries_of g c past (Fetch a e i)))
    by None is = let none : is_some (winner_behind g past a e.0 i) ≡ false = ap is_some is in let yes = some in cc
    by (Some w) is =
        ap (after_fetch (master_view g c past) a e.0 i) is
        ∙ ap (λ b. if b then record (master_view g c past) { router = Rattle.tez_router.specs.Table.after_fetched (Rattle.tez_router_view.specs.View.router_view g past) a e.0 i } else withdrawn (master_view g c past) w)
        (shelf_read g c past w m go.plan (won_behind g past a e.0 i w is))
        ∙ found w is (is_shelved g c past w) refl
