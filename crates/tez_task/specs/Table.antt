-- The table of a task: what each event makes of it, and what it answers.
use Rattle.std.specs.Prelude.{ℕ, ◌+◌, Bool, true, false, ◌||◌, nat_le, if◌then◌else◌, Option, Some, None, is_some, option_and_then}
use Rattle.std.specs.Option.{option_map}
use Rattle.tez_ids.specs.declared.TaskId.{TaskId}
use Rattle.tez_ids.specs.declared.AttemptId.{AttemptId}
use Rattle.tez_ids.specs.Same.{attempt, same_attempt}
use Rattle.tez_attempt.specs.declared.AttemptState.{AttemptState}
use Rattle.tez_attempt.specs.declared.AttemptState.TheVariants.{Queued}
use Rattle.tez_attempt.specs.declared.AttemptEvent.{AttemptEvent}
use Rattle.tez_attempt.specs.declared.AttemptEvent.TheVariants as attempt_event
use Rattle.tez_attempt.specs.Table.{moved_to}
use Rattle.tez_task.specs.declared.Live.{Live}
use Rattle.tez_task.specs.declared.TaskEvent.{TaskEvent}
use Rattle.tez_task.specs.declared.TaskEvent.TheVariants.{Queue, Place, Send, Succeed, Fail, Kill, Lose}
use Rattle.tez_task.specs.declared.TaskTook.{TaskTook}
use Rattle.tez_task.specs.declared.TaskTook.TheVariants.{Moved, Again, Spent, Ignored}
use Rattle.tez_task.specs.TaskState.{TaskState}

abbrev pub new_task : TaskId → ℕ → ℕ → TaskState
new_task t epoch max_failed = record { task = t; epoch = epoch; max_failed = max_failed; live = None; winner = None; queued = 0; failures = 0; spent = false }

-- a task with what an earlier master left
abbrev pub restored : TaskState → ℕ → Option AttemptId → TaskState
restored s failures winner = record s { failures = failures; winner = winner }

abbrev pub live_of : TaskState → Option AttemptId
live_of s = option_map (λ l. l.attempt) s.live

-- the attempt that is queued next
abbrev pub next_of : TaskState → AttemptId
next_of s = attempt s.epoch s.task s.queued

-- how far an attempt has come, where it is the live one
abbrev pub state_of : Option Live → AttemptId → Option AttemptState
state_of None a = None
state_of (Some l) a = if same_attempt l.attempt a then Some l.machine else None

-- where an event moves the live attempt, if it names it
abbrev pub moved_live : Option Live → AttemptId → AttemptEvent → Option AttemptState
moved_live live a e = option_and_then (λ state. moved_to state e) (state_of live a)

abbrev pub is_winner : Option AttemptId → AttemptId → Bool
is_winner None a = false
is_winner (Some w) a = same_attempt w a

-- the next attempt is queued, and there is no other
abbrev pub queued_again : TaskState → TaskState
queued_again s = record s { live = Some (record { attempt = next_of s; machine = Queued }); winner = None; queued = s.queued + 1 }

abbrev pub advanced : TaskState → AttemptId → Option AttemptState → TaskState
advanced s a None = s
advanced s a (Some state) = record s { live = Some (record { attempt = a; machine = state }) }

abbrev pub succeeded : TaskState → AttemptId → Option AttemptState → TaskState
succeeded s a None = s
succeeded s a (Some state) = record s { live = None; winner = Some a }

abbrev pub moved_or_ignored : Option AttemptState → TaskTook
moved_or_ignored None = Ignored
moved_or_ignored (Some state) = Moved

-- the next failure brings the count to the limit
abbrev pub is_last : TaskState → Bool
is_last s = nat_le s.max_failed (s.failures + 1)

abbrev pub after_failure : TaskState → TaskState
after_failure s =
    if is_last s
    then record s { live = None; failures = s.failures + 1; spent = true }
    else queued_again (record s { failures = s.failures + 1 })

abbrev pub took_failure : TaskState → TaskTook
took_failure s = if is_last s then Spent else Again (next_of s)

abbrev pub failed : TaskState → Option AttemptState → TaskState
failed s None = s
failed s (Some state) = after_failure s

abbrev pub took_fail : TaskState → Option AttemptState → TaskTook
took_fail s None = Ignored
took_fail s (Some state) = took_failure s

abbrev pub killed : TaskState → Option AttemptState → TaskState
killed s None = s
killed s (Some state) = queued_again s

abbrev pub took_kill : TaskState → Option AttemptState → TaskTook
took_kill s None = Ignored
took_kill s (Some state) = Again (next_of s)

abbrev pub after_event : TaskState → TaskEvent → TaskState
after_event s Queue = if is_some s.live || is_some s.winner then s else queued_again s
after_event s (Place a) = advanced s a (moved_live s.live a attempt_event.Place)
after_event s (Send a) = advanced s a (moved_live s.live a attempt_event.Send)
after_event s (Succeed a) = succeeded s a (moved_live s.live a attempt_event.Succeed)
after_event s (Fail a) = failed s (moved_live s.live a attempt_event.Fail)
after_event s (Kill a) = killed s (moved_live s.live a attempt_event.Kill)
after_event s (Lose a) = if is_winner s.winner a then queued_again s else s

abbrev pub took_event : TaskState → TaskEvent → TaskTook
took_event s Queue = if is_some s.live || is_some s.winner then Ignored else Again (next_of s)
took_event s (Place a) = moved_or_ignored (moved_live s.live a attempt_event.Place)
took_event s (Send a) = moved_or_ignored (moved_live s.live a attempt_event.Send)
took_event s (Succeed a) = moved_or_ignored (moved_live s.live a attempt_event.Succeed)
took_event s (Fail a) = took_fail s (moved_live s.live a attempt_event.Fail)
took_event s (Kill a) = took_kill s (moved_live s.live a attempt_event.Kill)
took_event s (Lose a) = if is_winner s.winner a then Again (next_of s) else Ignored

-- a spent task ignores every event
abbrev pub task_after : TaskState → TaskEvent → TaskState
task_after s e = if s.spent then s else after_event s e

abbrev pub task_took : TaskState → TaskEvent → TaskTook
task_took s e = if s.spent then Ignored else took_event s e
