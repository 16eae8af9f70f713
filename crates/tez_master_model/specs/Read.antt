-- What a master tells of itself.
--     task_in m t             the task, where its vertex is configured and has it
--     state_in m a            how far a live attempt has come, None where it is not its task's live one
--     winner_in m t           the winner of a task
--     next_in m t             the attempt of the task that is queued next
--     is_queued, waits, processes
--     location_in m t              the node slot where the pieces of the task's winner lie
--     is_on_shelf m w         the pieces of this winner are on the shelf
--     source_in m a e i       the winner behind an input of an attempt
--     piece_in m a e i        that winner, and which of its outputs the input is
--     queued_in m             the queued attempts, in the order of tasks
--     are_done m              every task of every vertex has a winner
--     first_sink m done v     v is the first vertex with a sink that is not in this list
--     next_sink m             the vertex whose sink the journal records next, None once each is recorded
--     is_next m v             v is that vertex
--     next_if m test          it, if it passes the test
use Rattle.std.specs.Prelude.{ℕ, Bool, true, false, not, ◌&&◌, ◌==◌, nat_lt, if◌then◌else◌, List, [], ◌∷◌, slice_get, position, Option, Some, None, is_some, unwrap_or, option_and_then}
use Rattle.std.specs.List.{filter, filter_map, flat_map, list_any, list_all}
use Rattle.std.specs.Option.{option_map, option_map_or}
use Rattle.tez_ids.specs.declared.TaskId.{TaskId}
use Rattle.tez_ids.specs.declared.AttemptId.{AttemptId}
use Rattle.tez_plan.specs.Dag.{target_of}
use Rattle.tez_plan.specs.Order.{depth}
use Rattle.tez_attempt.specs.declared.AttemptState.{AttemptState}
use Rattle.tez_attempt.specs.declared.AttemptState.TheVariants.{Queued, Placed, Processing, Succeeded, Failed, Killed}
use Rattle.tez_task.specs.TaskState.{TaskState}
use Rattle.tez_task.specs.Table.{state_of, next_of, live_of}
use Rattle.tez_vertex.specs.Table.{task_of}
use Rattle.tez_pool.specs.Table.{is_free as is_place_free}
use Rattle.tez_router.specs.Table.{source_in as router_source, output_in}
use Rattle.tez_schedule.specs.Table.{are_done as schedule_done}
use Rattle.tez_history.specs.Shape.{sinks, has_edge_out}
use Rattle.tez_history.specs.Steps.{is_first_without}
use Rattle.tez_master_model.specs.State.{MasterState}

-- ---- tasks and attempts

abbrev pub task_in : MasterState → TaskId → Option TaskState
task_in m t = option_and_then (λ x. task_of x t.index) (slice_get m.vertices t.vertex.0)

abbrev pub state_in : MasterState → AttemptId → Option AttemptState
state_in m a = option_and_then (λ t. state_of t.live a) (task_in m a.task)

abbrev pub winner_in : MasterState → TaskId → Option AttemptId
winner_in m t = option_and_then (λ x. x.winner) (task_in m t)

-- that of number 0 where there is no such task
abbrev pub next_in : MasterState → TaskId → AttemptId
next_in m t = option_map_or next_of (task_in m t) (record { epoch = record { 0 = m.epoch }; task = t; number = 0 })

abbrev pub is_in_queue : Option AttemptState → Bool
is_in_queue None = false
is_in_queue (Some Queued) = true
is_in_queue (Some Placed) = false
is_in_queue (Some Processing) = false
is_in_queue (Some Succeeded) = false
is_in_queue (Some Failed) = false
is_in_queue (Some Killed) = false

abbrev pub is_at_place : Option AttemptState → Bool
is_at_place None = false
is_at_place (Some Queued) = false
is_at_place (Some Placed) = true
is_at_place (Some Processing) = false
is_at_place (Some Succeeded) = false
is_at_place (Some Failed) = false
is_at_place (Some Killed) = false

abbrev pub is_at_work : Option AttemptState → Bool
is_at_work None = false
is_at_work (Some Queued) = false
is_at_work (Some Placed) = false
is_at_work (Some Processing) = true
is_at_work (Some Succeeded) = false
is_at_work (Some Failed) = false
is_at_work (Some Killed) = false

abbrev pub is_queued : MasterState → AttemptId → Bool
is_queued m a = is_in_queue (state_in m a)

abbrev pub waits : MasterState → AttemptId → Bool
waits m a = is_at_place (state_in m a)

abbrev pub processes : MasterState → AttemptId → Bool
processes m a = is_at_work (state_in m a)

-- the attempt of a task that is queued
abbrev pub queued_of : TaskState → List AttemptId
queued_of t = filter (λ a. is_in_queue (state_of t.live a)) (option_map_or (λ a. a ∷ []) (live_of t) [])

abbrev pub queued_in : MasterState → List AttemptId
queued_in m = flat_map (λ x. flat_map queued_of x.tasks) m.vertices

abbrev pub depth_in : MasterState → AttemptId → ℕ
depth_in m a = depth m.plan a.task.vertex.0

-- some queued attempt has a lesser depth
abbrev pub is_shallower_queued : MasterState → ℕ → Bool
is_shallower_queued m d = list_any (λ a. nat_lt (depth_in m a) d) (queued_in m)

-- ---- places

abbrev pub free_place : MasterState → Option ℕ
free_place m = position is_place_free m.pool.places

abbrev pub is_free_place : MasterState → ℕ → Bool
is_free_place m p = option_map_or is_place_free (slice_get m.pool.places p) false

-- ---- pieces

abbrev pub location_in : MasterState → TaskId → Option ℕ
location_in m t = unwrap_or (slice_get (unwrap_or (slice_get m.locations t.vertex.0) []) t.index) None

abbrev pub is_on_shelf : MasterState → AttemptId → Bool
is_on_shelf m w = has_edge_out m.plan w.task.vertex.0 && is_some (location_in m w.task)

-- over an edge that leads to the attempt's vertex
abbrev pub source_in : MasterState → AttemptId → ℕ → ℕ → Option AttemptId
source_in m a e i = if target_of m.plan e == a.task.vertex.0 then router_source m.router a e i else None

abbrev pub piece_in : MasterState → AttemptId → ℕ → ℕ → Option (AttemptId × ℕ)
piece_in m a e i = option_map (λ w. (w, output_in m.router a e i)) (source_in m a e i)

-- the winners of all tasks, in the order of tasks
abbrev pub winners_in : MasterState → List AttemptId
winners_in m = flat_map (λ x. filter_map (λ t. t.winner) x.tasks) m.vertices

abbrev pub is_on_slot : MasterState → ℕ → AttemptId → Bool
is_on_slot m slot w = has_edge_out m.plan w.task.vertex.0 && option_map_or (λ s. s == slot) (location_in m w.task) false

-- the winners whose pieces lie on a node
abbrev pub lost_in : MasterState → ℕ → List AttemptId
lost_in m slot = filter (is_on_slot m slot) (winners_in m)

-- ---- the commit

abbrev pub are_done : MasterState → Bool
are_done m = schedule_done m.schedule

abbrev pub flag : List Bool → ℕ → Bool
flag xs v = unwrap_or (slice_get xs v) false

abbrev pub first_sink : MasterState → List Bool → ℕ → Bool
first_sink m done v = is_first_without (flag done) (sinks m.plan) v

abbrev pub all_sinks : MasterState → List Bool → Bool
all_sinks m done = list_all (flag done) (sinks m.plan)

abbrev pub next_sink : MasterState → Option ℕ
next_sink m = slice_get (sinks m.plan) m.recorded

abbrev pub is_next : MasterState → ℕ → Bool
is_next m v = option_map_or (λ w. w == v) (next_sink m) false

abbrev pub next_if : MasterState → (ℕ → Bool) → Option ℕ
next_if m test = option_and_then (λ v. if test v then Some v else None) (next_sink m)

-- up, and the job is not finished
abbrev pub is_running : MasterState → Bool
is_running m = m.up && not m.finished
