-- The master's own next event: the first kind of which one may come, and of that kind the first.
use Rattle.std.specs.Prelude.{ℕ, Bool, not, ◌&&◌, ◌||◌, if◌then◌else◌, List, slice_get, Option, Some, None, is_none, option_and_then}
use Rattle.std.specs.List.{find}
use Rattle.std.specs.Option.{option_map}
use Rattle.tez_ids.specs.declared.AttemptId.{AttemptId}
use Rattle.tez_plan.specs.Dag.{vertex}
use Rattle.tez_events.specs.declared.CoreEvent.{CoreEvent}
use Rattle.tez_events.specs.declared.CoreEvent.TheVariants.{Configure, Queue, Place, Fetch, Send, Preempt, Ready, CommitStart, Ask, Publish, Finish, Purge}
use Rattle.tez_router.specs.declared.fetches.Fetch.{Fetch as Fetchable}
use Rattle.tez_router.specs.Table.{fetches_in, first_complete}
use Rattle.tez_schedule.specs.Table.{next_configure, next_queue}
use Rattle.tez_history.specs.Shape.{sinks}
use Rattle.tez_history.specs.Steps.{by_depth}
use Rattle.tez_master_model.specs.State.{MasterState}
use Rattle.tez_master_model.specs.Read.{queued_in, free_place, flag, are_done, all_sinks, next_sink, next_if, is_running}

abbrev pub or_else : {X : Type 0} → Option X → Option X → Option X
or_else None other = other
or_else (Some x) other = Some x

abbrev pub fetch_event : Fetchable → CoreEvent
fetch_event f = Fetch f.attempt f.edge f.input

-- the shallowest queued attempt, and of these the first
abbrev pub first_queued : MasterState → Option AttemptId
first_queued m = slice_get (by_depth m.plan (queued_in m)) 0

abbrev pub place_choice : MasterState → Option CoreEvent
place_choice m = option_and_then (λ a. option_map (Place a) (free_place m)) (first_queued m)

abbrev pub first_without : MasterState → List Bool → Option ℕ
first_without m done = find (λ v. not (flag done v)) (sinks m.plan)

-- before the commit the first sink that is not readied, and in a commit that was found the next one, once the store was asked of it
abbrev pub sink_to_ready : MasterState → Option ℕ
sink_to_ready m =
    if m.found then next_if m (λ v. flag m.asked v && not (flag m.readied v))
    else (if m.committing then None else first_without m m.readied)

abbrev pub ready_choice : MasterState → Option CoreEvent
ready_choice m = if are_done m then option_map (λ v. Ready (vertex v)) (sink_to_ready m) else None

abbrev pub commit_choice : MasterState → Option CoreEvent
commit_choice m = if not m.committing && all_sinks m m.readied then Some CommitStart else None

-- of a sink that the journal may not tell of, the store may
abbrev pub ask_choice : MasterState → Option CoreEvent
ask_choice m = if m.found then option_map (λ v. Ask (vertex v)) (next_if m (λ v. not (flag m.asked v))) else None

abbrev pub publish_choice : MasterState → Option CoreEvent
publish_choice m =
    if m.committing then option_map (λ v. Publish (vertex v)) (next_if m (λ v. not m.found || flag m.readied v)) else None

abbrev pub finish_choice : MasterState → Option CoreEvent
finish_choice m = if m.committing && is_none (next_sink m) then Some Finish else None

-- with the attempt that gives way, where one does
abbrev pub running_choice : MasterState → Option AttemptId → Option CoreEvent
running_choice m victim =
    or_else (option_map (λ v. Configure (vertex v)) (next_configure m.schedule))
    (or_else (option_map Queue (next_queue m.schedule))
    (or_else (option_map fetch_event (slice_get (fetches_in m.router) 0))
    (or_else (option_map Send (first_complete m.router.admitted))
    (or_else (place_choice m)
    (or_else (option_map Preempt victim)
    (or_else (ready_choice m)
    (or_else (commit_choice m)
    (or_else (ask_choice m)
    (or_else (publish_choice m)
    (finish_choice m))))))))))

abbrev pub choice_in : MasterState → Option AttemptId → Option CoreEvent
choice_in m victim = if is_running m then running_choice m victim else (if m.up && m.finished then Some Purge else None)
