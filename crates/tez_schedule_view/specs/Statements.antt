-- What the laws say of the schedule after a history.
use Rattle.std.specs.Prelude.{◌≡◌, ◌≤◌, ◌&&◌, ◌∷◌, ℕ, Bool, List, length, IsTrue, Some, None, is_none, true, false, if◌then◌else◌}
use Rattle.std.specs.List.{find}
use Rattle.std.specs.Option.{option_map}
use Rattle.tez_ids.specs.declared.EdgeId.{EdgeId}
use Rattle.tez_ids.specs.declared.TaskId.{TaskId}
use Rattle.tez_ids.specs.declared.VertexId.{VertexId}
use Rattle.tez_ids.specs.declared.AttemptId.{AttemptId}
use Rattle.tez_plan.specs.Dag.{Dag, vertex}
use Rattle.tez_conf.specs.declared.values.ConfValues.{ConfValues}
use Rattle.tez_vman.specs.declared.seen.Config.{Config}
use Rattle.tez_vman.specs.Rules.{config as shape}
use Rattle.tez_events.specs.declared.Entry.{Entry}
use Rattle.tez_events.specs.declared.Entry.TheVariants.{Stands, Carried, Kept, Queued, Committing}
use Rattle.tez_events.specs.declared.CoreEvent.{CoreEvent}
use Rattle.tez_events.specs.declared.CoreEvent.TheVariants.{Configure, Queue, Place, Fetch, Send, Preempt, Fail, LoseNode, LoseOutput, Ready, CommitStart, Publish, Finish, Purge}
use Rattle.tez_history.specs.Shape.{is_vertex}
use Rattle.tez_history.specs.History.{Past, extend, config, stage, winner, is_scheduled, is_committing}
use Rattle.tez_history.specs.Derived.{starts_epoch, task_count, is_configured, winners_of, all_done, seen, configures, is_processing, is_on_shelf, to_schedule, greatest_to_schedule}
use Rattle.tez_history.specs.Steps.{enabled, entries_of, done_entries, withdrawal, winner_behind, is_running, may_queue, some_configure, some_queue}
use Rattle.tez_history.specs.Follows.{IsMade, MayFollow}
use Rattle.tez_history.specs.Runs.{Standing, opened_at, standing_entries}
use Rattle.tez_laws.specs.Laws.{answered, taken_up}
use Rattle.tez_schedule.specs.Planned.{planned_schedule}
use Rattle.tez_schedule.specs.Table.{seen_by, config_at, configures_at, may_queue as may_queue_in, progress_at, are_done, next_configure, next_queue, after_configure, after_schedule, after_win, after_withdraw}
use Rattle.tez_schedule_view.specs.View.{schedule_view, progress_view, FitsPlan}
use Rattle.tez_schedule_view.specs.Events.{after_withdraws, winners_on, as_made, Tells, HasNoBytes, TellsInTime}

-- ---- schedule is new

-- with the first entry of a master the schedule is that of the plan
abbrev pub StartIsPlanned : Dag → ConfValues → Past → Entry → Type 0
StartIsPlanned g c past e = starts_epoch e ≡ true → schedule_view g c (e ∷ past) ≡ planned_schedule g c

-- ---- vertex is configured

-- a vertex that is configured now has its configuration
abbrev pub ConfigureTells : Dag → ConfValues → Past → VertexId → Config → Type 0
ConfigureTells g c past v s =
    IsMade g c past → enabled g c past (Configure v) ≡ true → configures g c v.0 past ≡ Some s
    → FitsPlan g (extend past (entries_of g c past (Configure v)))
    → after_configure (schedule_view g c past) v.0 s ≡ schedule_view g c (extend past (entries_of g c past (Configure v)))

-- so has one that stands again
abbrev pub StandsTells : Dag → ConfValues → Past → VertexId → ℕ → ℕ → Type 0
StandsTells g c past v n b =
    IsMade g c past → MayFollow g c past (Stands v n b) → FitsPlan g (Stands v n b ∷ past)
    → after_configure (schedule_view g c past) v.0 (shape n b) ≡ schedule_view g c (Stands v n b ∷ past)

-- ---- task is scheduled

-- a task that is queued is scheduled
abbrev pub QueueSchedules : Dag → ConfValues → Past → TaskId → Type 0
QueueSchedules g c past t = after_schedule (schedule_view g c past) t ≡ schedule_view g c (extend past (entries_of g c past (Queue t)))

-- so it is by each entry that tells it
abbrev pub QueuedSchedules : Dag → ConfValues → Past → AttemptId → Type 0
QueuedSchedules g c past a = after_schedule (schedule_view g c past) a.task ≡ schedule_view g c (Queued a ∷ past)

-- which leaves the schedule as it is where it was so before
abbrev pub AgainLeaves : Dag → ConfValues → Past → AttemptId → Type 0
AgainLeaves g c past a = is_scheduled a.task past ≡ true → schedule_view g c (Queued a ∷ past) ≡ schedule_view g c past

-- ---- winners come and go

-- a report gives a task its winner, with the bytes that it made
abbrev pub DoneWins : Dag → ConfValues → Past → AttemptId → Type 0
DoneWins g c past a =
    (made : List (ℕ × ℕ)) → IsMade g c past → FitsPlan g past → IsTrue (is_processing (stage a past)) → HasNoBytes past a
    → after_win (schedule_view g c past) a.task (as_made made) ≡ schedule_view g c (extend past (done_entries a made))

-- so does a winner that is kept, whose task was scheduled then
abbrev pub KeptWins : Dag → ConfValues → Past → AttemptId → Type 0
KeptWins g c past a =
    (made : List (EdgeId × ℕ)) → IsMade g c past → FitsPlan g past → MayFollow g c past (Kept a) → Tells g past a made
    → after_win (after_schedule (schedule_view g c past) a.task) a.task made ≡ schedule_view g c (Kept a ∷ past)

-- a winner that is withdrawn is taken away
abbrev pub WithdrawalTells : Dag → ConfValues → Past → AttemptId → Type 0
WithdrawalTells g c past w =
    IsMade g c past → FitsPlan g past → winner w.task past ≡ Some w
    → after_withdraw (schedule_view g c past) w.task ≡ schedule_view g c (extend past (withdrawal g past w))

-- ---- node is lost

-- with a lost node its winners are withdrawn, one after another
abbrev pub LossWithdraws : Dag → ConfValues → Past → ℕ → Type 0
LossWithdraws g c past slot =
    IsMade g c past → FitsPlan g past → enabled g c past (LoseNode slot) ≡ true → is_committing past ≡ false
    → schedule_view g c (extend past (entries_of g c past (LoseNode slot))) ≡ after_withdraws (schedule_view g c past) (winners_on g c past slot)

-- once the commit has started a loss leaves the schedule as it is
abbrev pub LateLossLeaves : Dag → ConfValues → Past → ℕ → Type 0
LateLossLeaves g c past slot =
    is_committing past ≡ true → schedule_view g c (extend past (entries_of g c past (LoseNode slot))) ≡ schedule_view g c past

-- ---- inputs are fetched

-- an input whose piece is found leaves the schedule as it is
abbrev pub FoundLeaves : Dag → ConfValues → Past → AttemptId → EdgeId → Type 0
FoundLeaves g c past a e =
    (i : ℕ) (w : AttemptId) → winner_behind g past a e.0 i ≡ Some w → is_on_shelf g c past w ≡ true
    → schedule_view g c (extend past (entries_of g c past (Fetch a e i))) ≡ schedule_view g c past

-- where it is not, the winner is withdrawn
abbrev pub MissedWithdraws : Dag → ConfValues → Past → AttemptId → Type 0
MissedWithdraws g c past a =
    (e : EdgeId) (i : ℕ) (w : AttemptId) → IsMade g c past → FitsPlan g past → enabled g c past (Fetch a e i) ≡ true
    → winner_behind g past a e.0 i ≡ Some w → is_on_shelf g c past w ≡ false
    → after_withdraw (schedule_view g c past) w.task ≡ schedule_view g c (extend past (entries_of g c past (Fetch a e i)))

-- ---- others leave it

-- a place that is given leaves the schedule as it is
abbrev pub PlaceLeaves : Dag → ConfValues → Past → AttemptId → ℕ → Type 0
PlaceLeaves g c past a p = schedule_view g c (extend past (entries_of g c past (Place a p))) ≡ schedule_view g c past

-- so does an order that goes out
abbrev pub SendLeaves : Dag → ConfValues → Past → AttemptId → Type 0
SendLeaves g c past a = schedule_view g c (extend past (entries_of g c past (Send a))) ≡ schedule_view g c past

-- an attempt that gives way
abbrev pub PreemptLeaves : Dag → ConfValues → Past → AttemptId → Type 0
PreemptLeaves g c past a =
    IsMade g c past → enabled g c past (Preempt a) ≡ true → schedule_view g c (extend past (entries_of g c past (Preempt a))) ≡ schedule_view g c past

-- a failure
abbrev pub FailureLeaves : Dag → ConfValues → Past → AttemptId → Type 0
FailureLeaves g c past a =
    IsMade g c past → enabled g c past (Fail a) ≡ true → schedule_view g c (extend past (entries_of g c past (Fail a))) ≡ schedule_view g c past

-- a lost output
abbrev pub OutputLossLeaves : Dag → ConfValues → Past → TaskId → Type 0
OutputLossLeaves g c past t = schedule_view g c (extend past (entries_of g c past (LoseOutput t))) ≡ schedule_view g c past

-- a sink that is put aside
abbrev pub ReadyLeaves : Dag → ConfValues → Past → VertexId → Type 0
ReadyLeaves g c past v = schedule_view g c (extend past (entries_of g c past (Ready v))) ≡ schedule_view g c past

-- the start of the commit
abbrev pub CommitLeaves : Dag → ConfValues → Past → Type 0
CommitLeaves g c past = schedule_view g c (extend past (entries_of g c past CommitStart)) ≡ schedule_view g c past

-- what the store answers of a sink
abbrev pub AnswerLeaves : Dag → ConfValues → Past → VertexId → Type 0
AnswerLeaves g c past v = (there : Bool) → schedule_view g c (answered past v there) ≡ schedule_view g c past

-- a sink that is published
abbrev pub PublishLeaves : Dag → ConfValues → Past → VertexId → Type 0
PublishLeaves g c past v = schedule_view g c (extend past (entries_of g c past (Publish v))) ≡ schedule_view g c past

-- the end of the job
abbrev pub FinishLeaves : Dag → ConfValues → Past → Type 0
FinishLeaves g c past = schedule_view g c (extend past (entries_of g c past Finish)) ≡ schedule_view g c past

-- the purge
abbrev pub PurgeLeaves : Dag → ConfValues → Past → Type 0
PurgeLeaves g c past = schedule_view g c (extend past (entries_of g c past Purge)) ≡ schedule_view g c past

-- failures that are carried over
abbrev pub CarriedLeaves : Dag → ConfValues → Past → TaskId → ℕ → Type 0
CarriedLeaves g c past t n = schedule_view g c (Carried t n ∷ past) ≡ schedule_view g c past

-- and a commit that is taken up
abbrev pub CommittingLeaves : Dag → ConfValues → Past → ℕ → Type 0
CommittingLeaves g c past n = schedule_view g c (Committing n ∷ past) ≡ schedule_view g c past

-- the greatest number of tasks that there were to schedule is never below the number of the moment
abbrev pub IsEnough : Dag → ConfValues → ℕ → Past → Type 0
IsEnough g c v past = to_schedule g c v past ≤ greatest_to_schedule g c v past

-- ---- schedule answers

-- what the manager of a vertex sees is what the model says
abbrev pub SeenIsTold : Dag → ConfValues → Past → Type 0
SeenIsTold g c past =
    IsMade g c past → FitsPlan g past → (v : ℕ)
    → seen_by (schedule_view g c past).vertices (schedule_view g c past).edges (progress_view g c past v) ≡ seen g v past

-- the configuration of a vertex is the model's
abbrev pub ConfigIsTold : Dag → ConfValues → Past → Type 0
ConfigIsTold g c past = IsMade g c past → (v : ℕ) → config_at (schedule_view g c past) v ≡ config v past

-- so is the one that a vertex is to be configured with
abbrev pub ConfiguresIsTold : Dag → ConfValues → Past → Type 0
ConfiguresIsTold g c past =
    IsMade g c past → FitsPlan g past → (v : ℕ)
    → configures_at (schedule_view g c past) v ≡ (if is_vertex g v && is_none (config v past) then configures g c v past else None)

-- a task may be queued where the model has it so
abbrev pub QueuedIsTold : Dag → ConfValues → Past → Type 0
QueuedIsTold g c past = IsMade g c past → FitsPlan g past → (t : TaskId) → may_queue_in (schedule_view g c past) t ≡ may_queue g c past t

-- a vertex has as many winners and tasks as the model says
abbrev pub ProgressIsTold : Dag → ConfValues → Past → Type 0
ProgressIsTold g c past =
    IsMade g c past → FitsPlan g past → (v : ℕ)
    → progress_at (schedule_view g c past) v ≡ (if is_configured v past then (length (winners_of v (task_count g v past) past), task_count g v past) else (0, 0))

-- all is done where the model has it so
abbrev pub DoneIsTold : Dag → ConfValues → Past → Type 0
DoneIsTold g c past = IsMade g c past → FitsPlan g past → are_done (schedule_view g c past) ≡ all_done g past

-- ---- schedule chooses

-- the next vertex to configure is the model's first
abbrev pub ConfigureIsChosen : Dag → ConfValues → Past → Type 0
ConfigureIsChosen g c past =
    IsMade g c past → FitsPlan g past → is_running past ≡ true
    → option_map (λ v. Configure (vertex v)) (next_configure (schedule_view g c past)) ≡ find (enabled g c past) (some_configure g)

-- so is the next task to queue
abbrev pub QueueIsChosen : Dag → ConfValues → Past → Type 0
QueueIsChosen g c past =
    IsMade g c past → FitsPlan g past → is_running past ≡ true
    → option_map Queue (next_queue (schedule_view g c past)) ≡ find (enabled g c past) (some_queue g past)

-- ---- bytes are told in time

-- no bytes are told of an attempt that processes
abbrev pub ProcessingHasNone : Past → AttemptId → Type 0
ProcessingHasNone past a = TellsInTime past → IsTrue (is_processing (stage a past)) → HasNoBytes past a

-- each event keeps it so that bytes are told only of attempts that are done
abbrev pub EventTellsInTime : Dag → ConfValues → Past → CoreEvent → Type 0
EventTellsInTime g c past e = IsMade g c past → enabled g c past e ≡ true → TellsInTime past → TellsInTime (extend past (entries_of g c past e))

-- so does each report
abbrev pub ReportTellsInTime : Dag → ConfValues → Past → AttemptId → Type 0
ReportTellsInTime g c past a =
    (made : List (ℕ × ℕ)) → IsMade g c past → IsTrue (is_processing (stage a past)) → TellsInTime past
    → TellsInTime (extend past (done_entries a made))

-- and each open
abbrev pub OpenTellsInTime : Dag → Past → Standing → Type 0
OpenTellsInTime g past s = TellsInTime past → TellsInTime (extend (opened_at s past) (standing_entries g (opened_at s past) s))

-- also where it takes up a commit
abbrev pub TakenUpTellsInTime : Dag → Past → Standing → ℕ → Type 0
TakenUpTellsInTime g past s n = TellsInTime past → TellsInTime (taken_up g past s n)
