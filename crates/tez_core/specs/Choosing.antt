-- What a master looks for when it chooses its own next event, and when a node is lost.
--     queued_one x         the attempt of a task that is queued
--     queued_at vs t       the same of a task of these vertices
--     count_at vs v        how many tasks a vertex has
--     work_choice m        a vertex to configure, a task to queue, an input to fetch or an order to send
--     found_to_ready m     the sink to put aside next in a commit that an earlier master started
--     end_choice m         what is to be put aside, to begin, to be asked, to be published or to finish
--     lost_at m slot t     the winner of a task, where its pieces lie on this node
use Rattle.std.specs.Prelude.{ℕ, not, ◌&&◌, List, length, slice_get, if◌then◌else◌, Option, Some, None, option_and_then}
use Rattle.std.specs.Option.{option_map, option_map_or}
use Rattle.tez_ids.specs.declared.TaskId.{TaskId}
use Rattle.tez_ids.specs.declared.AttemptId.{AttemptId}
use Rattle.tez_plan.specs.Dag.{vertex}
use Rattle.tez_events.specs.declared.CoreEvent.{CoreEvent}
use Rattle.tez_events.specs.declared.CoreEvent.TheVariants.{Configure, Queue, Send}
use Rattle.tez_task.specs.TaskState.{TaskState}
use Rattle.tez_vertex.specs.Vertex.{Vertex}
use Rattle.tez_router.specs.Table.{fetches_in, first_complete}
use Rattle.tez_schedule.specs.Table.{next_configure, next_queue}
use Rattle.tez_master_model.specs.State.{MasterState}
use Rattle.tez_master_model.specs.Read.{queued_of, winner_in, is_on_slot, flag, next_if}
use Rattle.tez_master_model.specs.Choice.{or_else, fetch_event, ready_choice, commit_choice, ask_choice, publish_choice, finish_choice}
use Rattle.tez_core.specs.Parts.{task_at}

abbrev pub queued_one : TaskState → Option AttemptId
queued_one x = slice_get (queued_of x) 0

abbrev pub queued_at : List Vertex → TaskId → Option AttemptId
queued_at vs t = option_and_then queued_one (task_at vs t)

abbrev pub count_at : List Vertex → ℕ → ℕ
count_at vs v = option_map_or (λ x. length x.tasks) (slice_get vs v) 0

abbrev pub work_choice : MasterState → Option CoreEvent
work_choice m =
    or_else (option_map (λ v. Configure (vertex v)) (next_configure m.schedule))
    (or_else (option_map Queue (next_queue m.schedule))
    (or_else (option_map fetch_event (slice_get (fetches_in m.router) 0))
    (option_map Send (first_complete m.router.admitted))))

-- the one that is recorded next, once the store was asked of it
abbrev pub found_to_ready : MasterState → Option ℕ
found_to_ready m = next_if m (λ v. flag m.asked v && not (flag m.readied v))

abbrev pub end_choice : MasterState → Option CoreEvent
end_choice m =
    or_else (ready_choice m)
    (or_else (commit_choice m)
    (or_else (ask_choice m)
    (or_else (publish_choice m)
    (finish_choice m))))

abbrev pub lost_by : MasterState → ℕ → Option AttemptId → Option AttemptId
lost_by m slot None = None
lost_by m slot (Some w) = if is_on_slot m slot w then Some w else None

abbrev pub lost_at : MasterState → ℕ → TaskId → Option AttemptId
lost_at m slot t = lost_by m slot (winner_in m t)
