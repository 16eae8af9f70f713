-- The vertices of a master with their tasks, and how one of them changes.
--     new_vertices g c epoch    the vertices of the plan, none configured
--     change vs v f             the vertices once v changed by f
--     take_in vs t e            the vertices once task t took an event
--     configure_one, carry_one, keep_one    a configuration, the failures of a task, a winner: what a new master is given
--     AreRestorable c vs        no task had an attempt, and each may fail more often
use Rattle.std.specs.Prelude.{◌≡◌, ℕ, List, map, slice_get, slice_set, Option, Some, None}
use Rattle.std.specs.Option.{option_map_or}
use Rattle.tez_ids.specs.declared.TaskId.{TaskId}
use Rattle.tez_ids.specs.declared.AttemptId.{AttemptId}
use Rattle.tez_plan.specs.Dag.{Dag, vertex}
use Rattle.tez_conf.specs.declared.values.ConfValues.{ConfValues}
use Rattle.tez_vman.specs.declared.seen.Config.{Config}
use Rattle.tez_task.specs.declared.TaskEvent.{TaskEvent}
use Rattle.tez_task.specs.TaskState.{TaskState}
use Rattle.tez_vertex.specs.Vertex.{Vertex}
use Rattle.tez_vertex.specs.Table.{new_vertex, task_of, after_configure, after_take, after_restore, IsFresh}
use Rattle.tez_history.specs.Shape.{vertices}

-- vertices that are not configured
abbrev pub new_vertices : Dag → ConfValues → ℕ → List Vertex
new_vertices g c epoch = map (λ v. new_vertex (vertex v) epoch c.max_failed) (vertices g)

-- ---- one vertex of several changes

abbrev pub change_by : List Vertex → ℕ → (Vertex → Vertex) → Option Vertex → List Vertex
change_by vs v f None = vs
change_by vs v f (Some s) = slice_set vs v (f s)

abbrev pub change : List Vertex → ℕ → (Vertex → Vertex) → List Vertex
change vs v f = change_by vs v f (slice_get vs v)

abbrev pub take_in : List Vertex → TaskId → TaskEvent → List Vertex
take_in vs t e = change vs t.vertex.0 (λ s. after_take s t.index e)

-- ---- what a new master is given: configurations, then failures, and then winners

abbrev pub configure_one : List Vertex → ℕ × Config → List Vertex
configure_one vs x = change vs x.0 (λ s. after_configure s x.1.tasks)

abbrev pub carry_one : List Vertex → TaskId × ℕ → List Vertex
carry_one vs x = change vs x.0.vertex.0 (λ s. after_restore s x.0.index x.1 None)

abbrev pub failures_in : Vertex → ℕ → ℕ
failures_in s i = option_map_or (λ t. t.failures) (task_of s i) 0

abbrev pub keep_one : List Vertex → AttemptId → List Vertex
keep_one vs a = change vs a.task.vertex.0 (λ s. after_restore s a.task.index (failures_in s a.task.index) (Some a))

-- a task may be restored as long as it had no attempt and may fail more often
pub record IsRestorable (c : ConfValues) (s : Vertex) : Type 0 where
  pub limit : s.max_failed ≡ c.max_failed
  pub tasks : (i : ℕ) (t : TaskState) → task_of s i ≡ Some t → (t.max_failed ≡ c.max_failed) × IsFresh t.failures t

abbrev pub AreRestorable : ConfValues → List Vertex → Type 0
AreRestorable c vs = (v : ℕ) (s : Vertex) → slice_get vs v ≡ Some s → IsRestorable c s
