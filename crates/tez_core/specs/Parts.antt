-- What single parts of a master tell.
--     task_at vs t           the task, where its vertex has it
--     IsVertexOf vs t x      x is the vertex of the task, which it has
--     next_at vs epoch t     the attempt of the task that is queued next
--     location_at rows t     where the pieces of the task's winner lie
use Rattle.std.specs.Prelude.{◌≡◌, ℕ, ◌<◌, List, [], length, Option, Some, None, slice_get, unwrap_or, option_and_then}
use Rattle.std.specs.Option.{option_map_or}
use Rattle.tez_ids.specs.declared.TaskId.{TaskId}
use Rattle.tez_ids.specs.declared.AttemptId.{AttemptId}
use Rattle.tez_task.specs.TaskState.{TaskState}
use Rattle.tez_task.specs.Table.{next_of}
use Rattle.tez_vertex.specs.Table.{task_of}
use Rattle.tez_vertex.specs.Vertex.{Vertex}

abbrev pub task_at : List Vertex → TaskId → Option TaskState
task_at vs t = option_and_then (λ x. task_of x t.index) (slice_get vs t.vertex.0)

abbrev pub IsVertexOf : List Vertex → TaskId → Vertex → Type 0
IsVertexOf vs t x = (slice_get vs t.vertex.0 ≡ Some x) × (t.index < length x.tasks)

-- that of number 0 where there is no such task
abbrev pub next_at : List Vertex → ℕ → TaskId → AttemptId
next_at vs epoch t = option_map_or next_of (task_at vs t) (record { epoch = record { 0 = epoch }; task = t; number = 0 })

abbrev pub location_at : List (List (Option ℕ)) → TaskId → Option ℕ
location_at rows t = unwrap_or (slice_get (unwrap_or (slice_get rows t.vertex.0) []) t.index) None
