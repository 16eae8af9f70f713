-- Which events a master may take, and why it takes another one not.
--     enabled_in m e     the event may come next
--     may_ask m v        the store may be asked of the sink of vertex v
--     why_in m a         why an attempt is not processing, None where it is
--     why_not m e        why an event is ignored
use Rattle.std.specs.Prelude.{ℕ, Bool, false, not, ◌&&◌, ◌||◌, ◌==◌, nat_lt, nat_le, if◌then◌else◌, Option, Some, None, is_some, is_none}
use Rattle.tez_ids.specs.declared.AttemptId.{AttemptId}
use Rattle.tez_events.specs.declared.CoreEvent.{CoreEvent}
use Rattle.tez_events.specs.declared.CoreEvent.TheVariants.{Open, Configure, Queue, Place, Fetch, Send, Preempt, Fail, LoseNode, LoseOutput, Restart, Ready, CommitStart, Ask, Publish, Finish, Purge}
use Rattle.tez_attempt.specs.declared.AttemptState.{AttemptState}
use Rattle.tez_attempt.specs.declared.AttemptState.TheVariants.{Queued, Placed, Processing, Succeeded, Failed, Killed}
use Rattle.tez_master_model.specs.declared.why.Why.{Why}
use Rattle.tez_master_model.specs.declared.why.Why.TheVariants.{Over, Down, OldEpoch, UnknownAttempt, AttemptEnded, Stranger, NotEnabled}
use Rattle.tez_task.specs.TaskState.{TaskState}
use Rattle.tez_task.specs.Table.{state_of}
use Rattle.tez_router.specs.Table.{fetched_in, missing_in}
use Rattle.tez_schedule.specs.Table.{configures_at, may_queue}
use Rattle.tez_master_model.specs.State.{MasterState}
use Rattle.tez_master_model.specs.Read.{task_in, winner_in, is_queued, waits, processes, depth_in, is_shallower_queued, free_place, is_free_place, is_on_shelf, source_in, are_done, flag, first_sink, all_sinks, next_sink, is_next, is_running}

abbrev pub is_lost : MasterState → Option AttemptId → Bool
is_lost m None = false
is_lost m (Some w) = is_on_shelf m w

-- a sink that may be readied: before the commit the first that is not, and in a commit that was found the next one, once the
-- store was asked of it
abbrev pub may_ready_in : MasterState → ℕ → Bool
may_ready_in m v =
    if m.found then is_next m v && (flag m.asked v && not (flag m.readied v)) else not m.committing && first_sink m m.readied v

abbrev pub may_ask : MasterState → ℕ → Bool
may_ask m v = is_running m && (m.found && (is_next m v && not (flag m.asked v)))

-- in a commit of one master every sink is readied when it starts
abbrev pub may_publish_in : MasterState → ℕ → Bool
may_publish_in m v = m.committing && (is_next m v && (not m.found || flag m.readied v))

-- to open, to restart and to ask the store is the world's
abbrev pub enabled_in : MasterState → CoreEvent → Bool
enabled_in m Open = false
enabled_in m (Configure v) = is_running m && is_some (configures_at m.schedule v.0)
enabled_in m (Queue t) = is_running m && may_queue m.schedule t
enabled_in m (Place a p) = is_running m && (is_queued m a && is_free_place m p)
enabled_in m (Fetch a e i) = is_running m && (waits m a && (not (fetched_in m.router a e.0 i) && is_some (source_in m a e.0 i)))
enabled_in m (Send a) = is_running m && (waits m a && (missing_in m.router a == 0))
enabled_in m (Preempt a) = is_running m && (waits m a && (is_none (free_place m) && is_shallower_queued m (depth_in m a)))
enabled_in m (Fail a) = is_running m && processes m a
enabled_in m (LoseNode slot) = m.up && nat_lt slot m.conf.nodes
enabled_in m (LoseOutput t) = m.up && is_lost m (winner_in m t)
enabled_in m Restart = false
enabled_in m (Ready v) = is_running m && (are_done m && may_ready_in m v.0)
enabled_in m CommitStart = is_running m && (not m.committing && all_sinks m m.readied)
enabled_in m (Ask v) = false
enabled_in m (Publish v) = is_running m && may_publish_in m v.0
enabled_in m Finish = is_running m && (m.committing && is_none (next_sink m))
enabled_in m Purge = m.up && m.finished

-- ---- why not

abbrev pub why_by : Option AttemptState → Option Why
why_by None = Some AttemptEnded
why_by (Some Processing) = None
why_by (Some Queued) = Some Stranger
why_by (Some Placed) = Some Stranger
why_by (Some Succeeded) = Some AttemptEnded
why_by (Some Failed) = Some AttemptEnded
why_by (Some Killed) = Some AttemptEnded

abbrev pub why_of_task : AttemptId → Option TaskState → Option Why
why_of_task a None = Some UnknownAttempt
why_of_task a (Some t) = if nat_le t.queued a.number then Some UnknownAttempt else why_by (state_of t.live a)

abbrev pub why_in : MasterState → AttemptId → Option Why
why_in m a =
    if nat_lt a.epoch.0 m.epoch then Some OldEpoch
    else (if nat_lt m.epoch a.epoch.0 then Some UnknownAttempt else why_of_task a (task_in m a.task))

-- an attempt that is there is no ground of its own
abbrev pub or_not_enabled : Option Why → Why
or_not_enabled None = NotEnabled
or_not_enabled (Some Over) = NotEnabled
or_not_enabled (Some Down) = NotEnabled
or_not_enabled (Some OldEpoch) = OldEpoch
or_not_enabled (Some UnknownAttempt) = UnknownAttempt
or_not_enabled (Some AttemptEnded) = AttemptEnded
or_not_enabled (Some Stranger) = NotEnabled
or_not_enabled (Some NotEnabled) = NotEnabled

abbrev pub why_not : MasterState → CoreEvent → Why
why_not m Open = NotEnabled
why_not m (Configure v) = NotEnabled
why_not m (Queue t) = NotEnabled
why_not m (Place a p) = or_not_enabled (why_in m a)
why_not m (Fetch a e i) = or_not_enabled (why_in m a)
why_not m (Send a) = or_not_enabled (why_in m a)
why_not m (Preempt a) = or_not_enabled (why_in m a)
why_not m (Fail a) = or_not_enabled (why_in m a)
why_not m (LoseNode slot) = NotEnabled
why_not m (LoseOutput t) = NotEnabled
why_not m Restart = NotEnabled
why_not m (Ready v) = NotEnabled
why_not m CommitStart = NotEnabled
why_not m (Ask v) = NotEnabled
why_not m (Publish v) = NotEnabled
why_not m Finish = NotEnabled
why_not m Purge = NotEnabled
