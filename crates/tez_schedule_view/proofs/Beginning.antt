-- Where a master starts, nothing is configured, scheduled or won: the view is the schedule of the plan.
use Rattle.std.specs.Prelude.{◌≡◌, ℕ, Bool, true, false, List, [], ◌∷◌, map, length, replicate, Option, None, is_some, is_none, refl}
use Rattle.std.specs.Option.{option_map_or}
use Rattle.std.proofs.Common.{ap, ◌∙◌}
use Rattle.tez_ids.specs.declared.TaskId.{TaskId}
use Rattle.tez_ids.specs.Same.{task}
use Rattle.tez_lists.proofs.Tables.{map_below}
use Rattle.tez_plan.specs.Dag.{Dag, vertex, source_of, tasks_of as planned}
use Rattle.tez_conf.specs.declared.values.ConfValues.{ConfValues}
use Rattle.tez_vman.specs.declared.seen.Config.{Config}
use Rattle.tez_events.specs.declared.Entry.{Entry}
use Rattle.tez_events.specs.declared.Entry.TheVariants.{Opened, Over}
use Rattle.tez_history.specs.Shape.{Feed, ByFile, ByVertex, ByPartitions, feed, vertices, numbers_below}
use Rattle.tez_history.specs.History.{Past, config, is_scheduled, winner, made_bytes}
use Rattle.tez_history.specs.Derived.{starts_epoch, greatest_to_schedule}
use Rattle.tez_schedule.specs.State.{ScheduleState, VertexState, EdgeState}
use Rattle.tez_schedule.specs.Planned.{planned_vertex, planned_edge, planned_schedule, feeder_by}
use Rattle.tez_schedule_view.specs.View.{schedule_view, progress_view, edge_view, fed_view, by_task, has_winner, made_view}
use Rattle.tez_schedule_view.proofs.Lists.{each-same}

-- a vertex with what changes
abbrev pub vertex_with : Dag → ConfValues → ℕ → Option Config → List Bool → List Bool → List Bool → VertexState
vertex_with g c v o scheduled fed won = record (planned_vertex g c v) { config = o; scheduled = scheduled; fed = fed; won = won }

abbrev pub edge_with : Dag → ℕ → List ℕ → EdgeState
edge_with g e made = record { source = vertex (source_of g e); made = made }

abbrev pub schedule_with : List VertexState → List EdgeState → List ℕ → ScheduleState
schedule_with vs es most = record { vertices = vs; edges = es; greatest = most }

fed_fresh : (g : Dag) (past : Past) (v : ℕ) → ((t : TaskId) → winner t past ≡ None) → (f : Feed) → fed_view g past v f ≡ replicate (planned g v) (is_none (feeder_by f))
fed_fresh g past v lost ByFile = refl
fed_fresh g past v lost (ByVertex u) = each-same (λ i. has_winner past (task u i)) false 0 (planned g v) (λ i. ap is_some (lost (task u i)))
fed_fresh g past v lost ByPartitions = refl

vertex_fresh : (g : Dag) (c : ConfValues) (past : Past) → ((v : ℕ) → config v past ≡ None) → ((t : TaskId) → is_scheduled t past ≡ false) → ((t : TaskId) → winner t past ≡ None) → (v : ℕ)
    → progress_view g c past v ≡ planned_vertex g c v
vertex_fresh g c past none idle lost v =
    let scheduled = by_task g v (λ t. is_scheduled t past) in
    let fed = fed_view g past v (feed g v) in
    let won = by_task g v (has_winner past) in
    let no = replicate (planned g v) false in
    ap (λ o. vertex_with g c v o scheduled fed won) (none v)
    ∙ ap (λ xs. vertex_with g c v None xs fed won) (each-same (λ i. is_scheduled (task v i) past) false 0 (planned g v) (λ i. idle (task v i)))
    ∙ ap (λ xs. vertex_with g c v None no xs won) (fed_fresh g past v lost (feed g v))
    ∙ ap (λ xs. vertex_with g c v None no (replicate (planned g v) (is_none (feeder_by (feed g v)))) xs) (each-same (λ i. has_winner past (task v i)) false 0 (planned g v) (λ i. ap is_some (lost (task v i))))

edge_fresh : (g : Dag) (past : Past) → ((t : TaskId) → winner t past ≡ None) → (e : ℕ) → edge_view g past e ≡ planned_edge g e
edge_fresh g past lost e =
    ap (edge_with g e)
    (each-same (λ i. made_view past e (task (source_of g e) i)) 0 0 (planned g (source_of g e)) (λ i. ap (λ o. option_map_or (λ w. made_bytes w e past) o 0) (lost (task (source_of g e) i))))

pub fresh_view : (g : Dag) (c : ConfValues) (past : Past) → ((v : ℕ) → config v past ≡ None) → ((t : TaskId) → is_scheduled t past ≡ false) → ((t : TaskId) → winner t past ≡ None)
    → ((v : ℕ) → greatest_to_schedule g c v past ≡ 0) → schedule_view g c past ≡ planned_schedule g c
fresh_view g c past none idle lost least =
    let most = map (λ v. greatest_to_schedule g c v past) (vertices g) in
    let edges = map (edge_view g past) (numbers_below (length g.edges)) in
    ap (λ vs. schedule_with vs edges most) (map_below (progress_view g c past) (planned_vertex g c) 0 (length g.vertices) (λ v _ _. vertex_fresh g c past none idle lost v))
    ∙ ap (λ es. schedule_with (map (planned_vertex g c) (vertices g)) es most) (map_below (edge_view g past) (planned_edge g) 0 (length g.edges) (λ e _ _. edge_fresh g past lost e))
    ∙ ap (schedule_with (map (planned_vertex g c) (vertices g)) (map (planned_edge g) (numbers_below (length g.edges)))) (each-same (λ v. greatest_to_schedule g c v past) 0 0 (length g.vertices) least)

pub first_view : (g : Dag) (c : ConfValues) → schedule_view g c [] ≡ planned_schedule g c
first_view g c = fresh_view g c [] (λ v. refl) (λ t. refl) (λ t. refl) (λ v. refl)

pub start_view : (g : Dag) (c : ConfValues) (past : Past) (e : Entry) → starts_epoch e ≡ true → schedule_view g c (e ∷ past) ≡ planned_schedule g c
start_view g c past (Opened n) h = fresh_view g c (Opened n ∷ past) (λ v. refl) (λ t. refl) (λ t. refl) (λ v. refl)
start_view g c past Over h = fresh_view g c (Over ∷ past) (λ v. refl) (λ t. refl) (λ t. refl) (λ v. refl)
start_view g c past _ h = cc
