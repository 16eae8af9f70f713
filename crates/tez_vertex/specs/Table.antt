-- The table of a vertex: what each call makes of it, and what it answers.
use Rattle.std.specs.Prelude.{◌≡◌, ℕ, ◌<◌, Bool, true, false, not, ◌||◌, if◌then◌else◌, List, [], map, slice_get, slice_set, Option, Some, None}
use Rattle.std.specs.List.{list_any, list_all}
use Rattle.tez_lists.specs.Numbers.{numbers_from}
use Rattle.tez_ids.specs.declared.VertexId.{VertexId}
use Rattle.tez_ids.specs.declared.AttemptId.{AttemptId}
use Rattle.tez_ids.specs.Same.{task}
use Rattle.tez_task.specs.declared.TaskEvent.{TaskEvent}
use Rattle.tez_task.specs.declared.TaskTook.{TaskTook}
use Rattle.tez_task.specs.declared.TaskTook.TheVariants.{Moved, Again, Spent, Ignored}
use Rattle.tez_task.specs.TaskState.{TaskState}
use Rattle.tez_task.specs.Table.{new_task, restored, task_after, task_took}
use Rattle.tez_vertex.specs.declared.VertexState.{VertexState}
use Rattle.tez_vertex.specs.declared.VertexState.TheVariants.{Unconfigured, Configured, Running, Succeeded, Failed}
use Rattle.tez_vertex.specs.Vertex.{Vertex, has_winner, is_spent}

abbrev pub new_vertex : VertexId → ℕ → ℕ → Vertex
new_vertex v epoch max_failed = record { vertex = v; epoch = epoch; max_failed = max_failed; configured = false; tasks = []; moved = false }

abbrev pub task_of : Vertex → ℕ → Option TaskState
task_of s i = slice_get s.tasks i

-- by whether it is configured, some task is spent, every task has a winner, and some event was not ignored
abbrev pub state_by : Bool → Bool → Bool → Bool → VertexState
state_by false spent all_won moved = Unconfigured
state_by true true all_won moved = Failed
state_by true false true moved = Succeeded
state_by true false false true = Running
state_by true false false false = Configured

-- some task has failed as often as it may
abbrev pub has_failed : Vertex → Bool
has_failed s = list_any is_spent s.tasks

abbrev pub state : Vertex → VertexState
state s = state_by s.configured (has_failed s) (list_all has_winner s.tasks) s.moved

-- tasks that have no attempt
abbrev pub new_tasks : Vertex → ℕ → List TaskState
new_tasks s n = map (λ i. new_task (task s.vertex.0 i) s.epoch s.max_failed) (numbers_from 0 n)

abbrev pub after_configure : Vertex → ℕ → Vertex
after_configure s n = if s.configured then s else record s { configured = true; tasks = new_tasks s n }

abbrev pub is_ignored : TaskTook → Bool
is_ignored Moved = false
is_ignored (Again a) = false
is_ignored Spent = false
is_ignored Ignored = true

abbrev pub is_last_failure : TaskTook → Bool
is_last_failure Moved = false
is_last_failure (Again a) = false
is_last_failure Spent = true
is_last_failure Ignored = false

abbrev pub take_by : Vertex → ℕ → TaskEvent → Option TaskState → Vertex
take_by s i e None = s
take_by s i e (Some t) = record s { tasks = slice_set s.tasks i (task_after t e); moved = s.moved || not (is_ignored (task_took t e)) }

abbrev pub after_take : Vertex → ℕ → TaskEvent → Vertex
after_take s i e = take_by s i e (task_of s i)

-- a task has no attempt yet, and may fail more often
abbrev pub IsFresh : ℕ → TaskState → Type 0
IsFresh failures t = (t.queued ≡ 0) × (failures < t.max_failed)

abbrev pub restore_by : Vertex → ℕ → ℕ → Option AttemptId → Option TaskState → Vertex
restore_by s i failures winner None = s
restore_by s i failures winner (Some t) = record s { tasks = slice_set s.tasks i (restored t failures winner) }

abbrev pub after_restore : Vertex → ℕ → ℕ → Option AttemptId → Vertex
after_restore s i failures winner = restore_by s i failures winner (task_of s i)
