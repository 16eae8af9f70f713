-- What was prepared for a change of a master, before the change.
--     tasks_for m v            the tasks that vertex v gets when it is configured now
--     IsPreparedFor m v x      this is what configuring vertex v takes
--     IsAdmissionFor m a x     this is what placing attempt a takes
use Rattle.std.specs.Prelude.{◌≡◌, ℕ, List, Option, slice_get, option_and_then}
use Rattle.std.specs.Option.{option_map}
use Rattle.tez_ids.specs.declared.AttemptId.{AttemptId}
use Rattle.tez_ids.specs.declared.VertexId.{VertexId}
use Rattle.tez_task.specs.TaskState.{TaskState}
use Rattle.tez_vertex.specs.Table.{new_tasks}
use Rattle.tez_vertex.specs.Vertex.{Vertex}
use Rattle.tez_router.specs.Admission.{AdmissionState, FitsRouter}
use Rattle.tez_schedule.specs.Table.{configures_at}
use Rattle.tez_master_model.specs.State.{MasterState}

pub record NewConfigState : Type 0 where
  pub vertex : VertexId
  pub tasks : Option (List TaskState)

-- none where there is no such vertex
abbrev pub new_tasks_at : List Vertex → ℕ → ℕ → Option (List TaskState)
new_tasks_at vs v n = option_map (λ x. new_tasks x n) (slice_get vs v)

-- none where it is not to be configured
abbrev pub tasks_for : MasterState → ℕ → Option (List TaskState)
tasks_for m v = option_and_then (λ s. new_tasks_at m.vertices v s.tasks) (configures_at m.schedule v)

pub record IsPreparedFor (m : MasterState) (v : VertexId) (x : NewConfigState) : Type 0 where
  pub vertex : x.vertex ≡ v
  pub tasks : x.tasks ≡ tasks_for m v.0

pub record IsAdmissionFor (m : MasterState) (a : AttemptId) (x : AdmissionState) : Type 0 where
  pub attempt : x.blank.attempt ≡ a
  pub fits : FitsRouter m.router x
