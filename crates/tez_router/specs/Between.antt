-- The notices of attempts over some of their edges.
--     edges_between links s v        the edges from vertex s to vertex v, in order
--     over e ys                      of an attempt's inputs those over an edge
--     notices_by links t lost es x   an attempt's notices over these edges, by edge and by input
--     is_paired links e              a one-to-one edge
--     AreAt v xs                     the attempts are of tasks of vertex v
--     AreReaders .. xs first end     outside these places nobody has a notice over these edges
use Rattle.std.specs.Prelude.{◌≡◌, ℕ, ◌<◌, ◌≤◌, ◌&&◌, ◌==◌, Bool, true, false, if◌then◌else◌, List, [], ◌∷◌, length, slice_get, slice_index_or}
use Rattle.std.specs.List.{filter, flat_map, AllByRecursion}
use Rattle.std.specs.Option.{option_map_or}
use Rattle.tez_ids.specs.declared.TaskId.{TaskId}
use Rattle.tez_ids.specs.declared.AttemptId.{AttemptId}
use Rattle.tez_ids.specs.declared.EdgeId.{EdgeId}
use Rattle.tez_plan.specs.Dag.{edge}
use Rattle.tez_router.specs.declared.notice.Notice.{Notice}
use Rattle.tez_router.specs.State.{LinkState, EdgeInputs, AdmittedState, Routing, OneToOne, Broadcast, ScatterGather}
use Rattle.tez_router.specs.Table.{edge_notices}

abbrev pub edge_between : ℕ → ℕ → LinkState → List EdgeId
edge_between s v l = if l.source == s && (l.target == v) then edge l.edge ∷ [] else []

abbrev pub edges_between : List LinkState → ℕ → ℕ → List EdgeId
edges_between links s v = flat_map (edge_between s v) links

abbrev pub over : ℕ → List EdgeInputs → List EdgeInputs
over e ys = filter (λ y. y.edge == e) ys

abbrev pub notices_by : List LinkState → TaskId → AttemptId → List EdgeId → AdmittedState → List Notice
notices_by links t lost es x = flat_map (λ e. flat_map (edge_notices links t lost x.attempt) (over e.0 x.edges)) es

abbrev pub is_one_to_one : Routing → Bool
is_one_to_one (OneToOne tasks) = true
is_one_to_one (Broadcast sources consumers) = false
is_one_to_one (ScatterGather sources parts base) = false

abbrev pub is_paired : List LinkState → EdgeId → Bool
is_paired links e = option_map_or (λ l. is_one_to_one l.routing) (slice_get links e.0) false

abbrev pub AreAt : ℕ → List AdmittedState → Type 0
AreAt v xs = AllByRecursion (λ x. x.attempt.task.vertex.0 ≡ v) xs

pub record AreReaders (links : List LinkState) (t : TaskId) (es : List EdgeId) (xs : List AdmittedState) (first end : ℕ) : Type 0 where
  pub ordered : first ≤ end
  pub inside : end ≤ length xs
  pub below : (k : ℕ) (d : AdmittedState) (lost : AttemptId) → k < first → notices_by links t lost es (slice_index_or xs k d) ≡ []
  pub behind : (k : ℕ) (d : AdmittedState) (lost : AttemptId) → end ≤ k → k < length xs → notices_by links t lost es (slice_index_or xs k d) ≡ []
