-- The parts of a step of a running world.
--     SameParts, SameLog                  nothing changed
--     IsAsked step entries h r log        the master has answered, and there is room for the answer
--     IsTaken, IsFailed, IsDone           what came of an event that does not end the world, of a failure, of a call of a device
--     IsReported                          what came of a report
--     IsMasterOnly e                           the event changes neither places nor shelves, and calls no device
use Rattle.std.specs.Prelude.{◌≡◌, ◌≤◌, ◌<◌, ◌+◌, ⊤, true, false, List, length, Some}
use Rattle.tez_ids.specs.declared.AttemptId.{AttemptId}
use Rattle.tez_conf.specs.declared.values.ConfValues.{ConfValues}
use Rattle.tez_events.specs.declared.Entry.{Entry}
use Rattle.tez_events.specs.declared.CoreEvent.{CoreEvent}
use Rattle.tez_events.specs.declared.CoreEvent.TheVariants.{Open, Configure, Queue, Place, Fetch, Send, Preempt, Fail, LoseNode, LoseOutput, Restart, Ready, CommitStart, Ask, Publish, Finish, Purge}
use Rattle.tez_meaning.specs.Jobs.{Job}
use Rattle.tez_meaning.specs.Value.{sums}
use Rattle.tez_history.specs.History.{extend}
use Rattle.tez_history.specs.Steps.{entries_of}
use Rattle.tez_master_model.specs.Enabled.{enabled_in, why_not}
use Rattle.tez_master_view.specs.View.{master_view}
use Rattle.tez_log.specs.Log.{LogState}
use Rattle.tez_master.specs.Master.{Step, entries_told, records_told}
use Rattle.tez_master.specs.declared.handled.Handled.{Handled}
use Rattle.tez_steps.specs.declared.running.Running.{Running}
use Rattle.tez_steps.specs.declared.verdict.Device.TheVariants as device
use Rattle.tez_steps.specs.declared.verdict.Verdict.TheVariants.{Succeeded, SinkExists, AttemptsSpent, DeviceFault}
use Rattle.tez_steps.specs.declared.verdict.Took.{Took}
use Rattle.tez_steps.specs.declared.verdict.Took.TheVariants.{Changed, Ignored, Ended}
use Rattle.tez_world_invariant.specs.Keeping.{most_entries}
use Rattle.tez_world_invariant.specs.Store.{IsSuccess}
use Rattle.tez_orders.specs.Outcomes.{ReportParts}
use Rattle.tez_steps.specs.declared.event.Event.TheVariants.{Report}
use Rattle.tez_steps.specs.Step.{Up, IsEnd, IsBad, Adds, IsWhyUp}
use Rattle.tez_steps.specs.Holds.{parts_of, Holds}

-- the parts of a running world are the same, but for an answer that is not settled
pub record SameParts (old new : Running) : Type 0 where
  pub parts : parts_of new ≡ parts_of old
  pub queue : new.seats.queue ≡ old.seats.queue

-- nothing was written
pub record SameLog (old new : LogState) : Type 0 where
  pub past : new.past ≡ old.past
  pub records : new.records ≡ old.records

-- the master has answered, and there is room for what the answer tells
pub record IsAsked (step : Step) (entries : List Entry) (h : Handled) (r : Running) (log : LogState) : Type 0 where
  pub told : entries_told h ≡ entries
  pub pending : r.master.pending ≡ Some step
  pub entries_fit : length entries ≤ log.entry_room
  pub records_fit : length (records_told h) ≤ log.record_room
  pub short : length log.past + length entries < most_entries

-- ---- an event of a running world

-- it was taken, or it was ignored and changed nothing; it does not end the world
abbrev pub IsTaken : Job → ConfValues → CoreEvent → Running → LogState → Took → Running → LogState → Type 0
IsTaken job c e r log Changed after then_log =
    (enabled_in (master_view job.plan c log.past) e ≡ true)
    × Holds job c (parts_of after) then_log.past
    × (then_log.past ≡ extend log.past (entries_of job.plan c log.past e))
IsTaken job c e r log (Ignored why) after then_log =
    (enabled_in (master_view job.plan c log.past) e ≡ false)
    × (why ≡ why_not (master_view job.plan c log.past) e)
    × SameParts r after
    × SameLog log then_log
IsTaken job c e r log (Ended v) after then_log = ⊥

-- the same of a failure, which may end the world
abbrev pub IsFailed : Job → ConfValues → AttemptId → Running → LogState → Took → Running → LogState → Type 0
IsFailed job c a r log Changed after then_log = IsTaken job c (Fail a) r log Changed after then_log
IsFailed job c a r log (Ignored why) after then_log = IsTaken job c (Fail a) r log (Ignored why) after then_log
IsFailed job c a r log (Ended v) after then_log =
    (enabled_in (master_view job.plan c log.past) (Fail a) ≡ true)
    × (v ≡ AttemptsSpent a.task)
    × IsEnd job c v then_log.past
    × (then_log.past ≡ extend log.past (entries_of job.plan c log.past (Fail a)))

-- the same of an event that calls a device: where the device fails, nothing is written
abbrev pub IsDone : Job → ConfValues → CoreEvent → Running → LogState → Took → Running → LogState → Type 0
IsDone job c e r log Changed after then_log = IsTaken job c e r log Changed after then_log
IsDone job c e r log (Ignored why) after then_log = IsTaken job c e r log (Ignored why) after then_log
IsDone job c e r log (Ended (DeviceFault d)) after then_log =
    (enabled_in (master_view job.plan c log.past) e ≡ true) × (d ≡ device.Store) × SameLog log then_log
IsDone job c e r log (Ended (Succeeded pairs)) after then_log =
    (enabled_in (master_view job.plan c log.past) e ≡ true)
    × IsSuccess job (sums job) then_log.past
    × (then_log.past ≡ extend log.past (entries_of job.plan c log.past e))
IsDone job c e r log (Ended (SinkExists v)) after then_log = ⊥
IsDone job c e r log (Ended (AttemptsSpent t)) after then_log = ⊥

-- an event that changes neither places nor shelves, and calls no device
abbrev pub IsMasterOnly : CoreEvent → Type 0
IsMasterOnly Open = ⊤
IsMasterOnly (Configure v) = ⊤
IsMasterOnly (Queue t) = ⊤
IsMasterOnly (Place a p) = ⊥
IsMasterOnly (Fetch a e i) = ⊥
IsMasterOnly (Send a) = ⊥
IsMasterOnly (Preempt a) = ⊥
IsMasterOnly (Fail a) = ⊥
IsMasterOnly (LoseNode slot) = ⊥
IsMasterOnly (LoseOutput t) = ⊥
IsMasterOnly Restart = ⊤
IsMasterOnly (Ready v) = ⊥
IsMasterOnly CommitStart = ⊥
IsMasterOnly (Ask v) = ⊤
IsMasterOnly (Publish v) = ⊥
IsMasterOnly Finish = ⊤
IsMasterOnly Purge = ⊥

-- the same of a report
abbrev pub IsReported : Job → ConfValues → ReportParts → Running → LogState → Took → Running → LogState → Type 0
IsReported job c r before log Changed after then_log =
    Adds job c Up log.past (Report r) then_log.past × Holds job c (parts_of after) then_log.past
IsReported job c r before log (Ignored why) after then_log =
    IsWhyUp job c log.past (Report r) why × SameParts before after × SameLog log then_log
IsReported job c r before log (Ended (AttemptsSpent t)) after then_log =
    Adds job c Up log.past (Report r) then_log.past × (r.order.attempt.task ≡ t) × IsBad r.outcome × IsEnd job c (AttemptsSpent t) then_log.past
IsReported job c r before log (Ended (DeviceFault d)) after then_log = (d ≡ device.Store) × SameLog log then_log
IsReported job c r before log (Ended (Succeeded pairs)) after then_log = ⊥
IsReported job c r before log (Ended (SinkExists v)) after then_log = ⊥
