-- What holds of every history that is made of entries that may follow.
--     OneLive past              an attempt that has not ended is its task's live attempt, so that a task has one at most
--     LiveIsOfTask past         the live attempt and the winner of a task are attempts at it, and the live one has not ended
--     NeverBoth past            a task with a live attempt has no winner
--     UnscheduledHasNone past   a task that was neither kept nor queued has neither
--     ScheduledIsTask g past    a task that was kept or queued is a task of a configured vertex
--     ConfiguredIsVertex g past  what is configured is a vertex of the plan
--     IsKnown s                 an attempt at this stage was queued in the present epoch
--     NextIsNew past            the next attempt of a task was not queued yet
--     NextNeverQueued past      nor in an earlier epoch
--     PlacesAgree c past        a place is held by exactly who stands there, and is there
--     QueuedFetchedNone past    a queued attempt has fetched nothing
--     Obeys rule g c past       each entry passes this test against those before it
--     OwesRight g past es       of these entries each is what is owed after a withdrawal, and nothing is owed after the last
--     GoesOn past               a task that was kept or scheduled has a live attempt or a winner
--     InputsLeadInside g past   each input leads to a task below the tasks of its source
--     SourcesDone g v past      every vertex that feeds v has all its winners
--     IsReady g c v past        v's manager configures, and all tasks of v are to be scheduled
--     FewFailures c past        no task is spent
--     TasksAreListed g past     the tasks listed are those of the configured vertices
--     LiveIsListed, WinnerIsListed g past     a task with a live attempt, or a winner, is one of them
--     AreInOrder ts             tasks stand in order of vertex, then index
--     Sound g c past            what a master goes by between two steps
--     answered past v there     the history after the store answered of a sink
--     AnswersKeep g c P         such an answer, of a sink that the master may ask of, keeps P
--     AnswersOweRight g past    nor is it or anything after it owed
--     taken_up g past s n       the history after a master found this standing and a commit with n sinks recorded
--     AllFindAgreeing g c r hs  each new master finds the configurations as they stood last
--     IsSound g c r             what holds of a run after each happening
use Rattle.std.specs.Prelude.{◌≡◌, ◌↔◌, ℕ, suc, ◌<◌, ◌≤◌, ◌==◌, nat_lt, nat_le, not, ◌&&◌, ◌||◌, ⊤, IsTrue, Bool, true, false, List, [], ◌∷◌, Option, Some, None, is_none, is_some}
use Rattle.tez_ids.specs.declared.TaskId.{TaskId}
use Rattle.tez_ids.specs.declared.AttemptId.{AttemptId}
use Rattle.tez_ids.specs.declared.VertexId.{VertexId}
use Rattle.tez_vman.specs.declared.seen.Config.{Config}
use Rattle.tez_ids.specs.Same.{same_attempt}
use Rattle.tez_lists.specs.Numbers.{In}
use Rattle.tez_plan.specs.Dag.{Dag, from}
use Rattle.tez_conf.specs.declared.values.ConfValues.{ConfValues}
use Rattle.tez_events.specs.declared.Entry.{Entry}
use Rattle.tez_events.specs.declared.Entry.TheVariants.{Stands, Configured, Queued}
use Rattle.tez_events.specs.declared.CoreEvent.{CoreEvent}
use Rattle.tez_events.specs.declared.CoreEvent.TheVariants.{Open, Configure, Queue, Place, Fetch, Send, Preempt, Fail, LoseNode, LoseOutput, Restart, Ready, CommitStart, Ask, Publish, Finish, Purge}
use Rattle.tez_history.specs.Shape.{is_vertex, places, Edge, primary_edges}
use Rattle.tez_history.specs.History.{Past, Stage, Unknown, InQueue, Waits, Runs, Ended, stage, live, winner, holder, config, failures, is_scheduled, is_fetched, extend}
use Rattle.tez_history.specs.Derived.{next_attempt, tasks, is_task, Input, inputs, source_of_input, task_count, is_vertex_done, is_configured, configures, to_schedule}
use Rattle.tez_history.specs.Steps.{enabled, asked_entries}
use Rattle.tez_history.specs.Rules.{configs_right, agrees, last_config, withdrawals_right, owed, is_owed, is_at_start, is_start}
use Rattle.tez_history.specs.Follows.{IsAlive, IsMade}
use Rattle.tez_history.specs.Runs.{Run, Standing, opened_at, committed_entries, spent_in, Unfinished, AllDone, Committed, Begun, Happening, Event, Report, Answer, Stop, Start, happens, IsBetween}

-- ---- attempts

abbrev pub OneLive : Past → Type 0
OneLive past = (a : AttemptId) → IsAlive (stage a past) → live a.task past ≡ Some a

abbrev pub LiveIsOfTask : Past → Type 0
LiveIsOfTask past = (t : TaskId) (a : AttemptId) → live t past ≡ Some a → (a.task ≡ t) × IsAlive (stage a past)

abbrev pub WinnerIsOfTask : Past → Type 0
WinnerIsOfTask past = (t : TaskId) (a : AttemptId) → winner t past ≡ Some a → a.task ≡ t

abbrev pub NeverBoth : Past → Type 0
NeverBoth past = (t : TaskId) (a : AttemptId) → live t past ≡ Some a → winner t past ≡ None

abbrev pub UnscheduledHasNone : Past → Type 0
UnscheduledHasNone past = (t : TaskId) → is_scheduled t past ≡ false → (live t past ≡ None) × (winner t past ≡ None)

abbrev pub ScheduledIsTask : Dag → Past → Type 0
ScheduledIsTask g past = (t : TaskId) → is_scheduled t past ≡ true → is_task g past t ≡ true

abbrev pub ConfiguredIsVertex : Dag → Past → Type 0
ConfiguredIsVertex g past = (v : ℕ) → is_configured v past ≡ true → is_vertex g v ≡ true

abbrev pub IsKnown : Stage → Type 0
IsKnown Unknown = ⊥
IsKnown InQueue = ⊤
IsKnown (Waits p) = ⊤
IsKnown (Runs p) = ⊤
IsKnown Ended = ⊤

abbrev pub NextIsNew : Past → Type 0
NextIsNew past = (t : TaskId) → IsKnown (stage (next_attempt past t) past) → ⊥

-- whether an attempt was queued anywhere in the history
abbrev pub was_ever_queued : AttemptId → Past → Bool
was_ever_queued a [] = false
was_ever_queued a (Queued b ∷ past) = same_attempt b a || was_ever_queued a past
was_ever_queued a (_ ∷ past) = was_ever_queued a past

abbrev pub NextNeverQueued : Past → Type 0
NextNeverQueued past = (t : TaskId) → was_ever_queued (next_attempt past t) past ≡ false

-- ---- places

-- the place where an attempt stands
abbrev pub place_in : Stage → Option ℕ
place_in Unknown = None
place_in InQueue = None
place_in (Waits p) = Some p
place_in (Runs p) = Some p
place_in Ended = None

abbrev pub PlacesAgree : ConfValues → Past → Type 0
PlacesAgree c past = (p : ℕ) (a : AttemptId) → ((holder p past ≡ Some a) ↔ (place_in (stage a past) ≡ Some p)) × (holder p past ≡ Some a → p < places c)

abbrev pub QueuedFetchedNone : Past → Type 0
QueuedFetchedNone past = (a : AttemptId) (e i : ℕ) → stage a past ≡ InQueue → is_fetched a e i past ≡ false

-- ---- rules

abbrev pub Obeys : (Dag → ConfValues → Past → Entry → Bool) → Dag → ConfValues → Past → Type 0
Obeys rule g c [] = ⊤
Obeys rule g c (e ∷ past) = (rule g c past e ≡ true) × Obeys rule g c past

-- of the rule of configurations what needs no journal, and the rest: what stands is what stood last
abbrev pub configured_right : Dag → ConfValues → Past → Entry → Bool
configured_right g c past (Configured v tasks base) = configs_right g c past (Configured v tasks base)
configured_right g c past (Stands v tasks base) = is_vertex g v.0 && is_none (config v.0 past)
configured_right g c past _ = true

abbrev pub stands_again : Dag → ConfValues → Past → Entry → Bool
stands_again g c past (Stands v tasks base) = agrees tasks base (last_config v.0 false past)
stands_again g c past _ = true

-- a spent task is not queued
abbrev pub spent_right : Dag → ConfValues → Past → Entry → Bool
spent_right g c past (Queued a) = nat_lt (failures a.task past) c.max_failed
spent_right g c past _ = true

-- where a master starts, nothing but a start or another stop may come
abbrev pub start_alone : Dag → ConfValues → Past → Entry → Bool
start_alone g c past e = not (is_at_start past) || is_start e

abbrev pub OwesRight : Dag → Past → List Entry → Type 0
OwesRight g past [] = owed g past ≡ []
OwesRight g past (e ∷ es) = (is_owed (owed g past) e ≡ true) × OwesRight g (e ∷ past) es

-- ---- what feeds a vertex

abbrev pub InputsLeadInside : Dag → Past → Type 0
InputsLeadInside g past = (a : AttemptId) (k : Input) → In k (inputs g past a) → (source_of_input g past a k).index < task_count g (from g k.1) past

abbrev pub SourcesDone : Dag → ℕ → Past → Type 0
SourcesDone g v past = (e : Edge) → In e (primary_edges g v) → is_vertex_done g (from g e.1) past ≡ true

abbrev pub IsReady : Dag → ConfValues → ℕ → Past → Type 0
IsReady g c v past = (is_some (configures g c v past) ≡ true) × (is_configured v past ≡ true → to_schedule g c v past ≡ task_count g v past)

-- ---- between two steps

abbrev pub GoesOn : Past → Type 0
GoesOn past = (t : TaskId) → live t past ≡ None → winner t past ≡ None → is_scheduled t past ≡ false

-- an event that does not spend a task
abbrev pub SpendsNot : ConfValues → Past → CoreEvent → Type 0
SpendsNot c past (Fail a) = nat_le c.max_failed (suc (failures a.task past)) ≡ false
SpendsNot c past Open = ⊤
SpendsNot c past (Configure v) = ⊤
SpendsNot c past (Queue t) = ⊤
SpendsNot c past (Place a p) = ⊤
SpendsNot c past (Fetch a e i) = ⊤
SpendsNot c past (Send a) = ⊤
SpendsNot c past (Preempt a) = ⊤
SpendsNot c past (LoseNode slot) = ⊤
SpendsNot c past (LoseOutput t) = ⊤
SpendsNot c past Restart = ⊤
SpendsNot c past (Ready v) = ⊤
SpendsNot c past CommitStart = ⊤
SpendsNot c past (Ask v) = ⊤
SpendsNot c past (Publish v) = ⊤
SpendsNot c past Finish = ⊤
SpendsNot c past Purge = ⊤

abbrev pub FewFailures : ConfValues → Past → Type 0
FewFailures c past = (t : TaskId) → failures t past < c.max_failed

-- ---- what a master goes by

abbrev pub TasksAreListed : Dag → Past → Type 0
TasksAreListed g past = (t : TaskId) → In t (tasks g past) ↔ (is_task g past t ≡ true)

abbrev pub LiveIsListed : Dag → Past → Type 0
LiveIsListed g past = (t : TaskId) (a : AttemptId) → live t past ≡ Some a → In t (tasks g past)

abbrev pub WinnerIsListed : Dag → Past → Type 0
WinnerIsListed g past = (t : TaskId) (a : AttemptId) → winner t past ≡ Some a → In t (tasks g past)

abbrev pub comes_before : TaskId → TaskId → Bool
comes_before s t = nat_lt s.vertex.0 t.vertex.0 || (s.vertex.0 == t.vertex.0 && nat_lt s.index t.index)

abbrev pub AreInOrder : List TaskId → Type 0
AreInOrder [] = ⊤
AreInOrder (t ∷ ts) = ((s : TaskId) → In s ts → comes_before t s ≡ true) × AreInOrder ts

-- the one premise of a step: what holds between two steps of a run that has not ended
pub record Sound (g : Dag) (c : ConfValues) (past : Past) : Type 0 where
  pub made : IsMade g c past
  pub settled : owed g past ≡ []
  pub goes_on : GoesOn past
  pub few : FewFailures c past
  pub live_listed : LiveIsListed g past
  pub winner_listed : WinnerIsListed g past
  pub in_order : AreInOrder (tasks g past)
  pub inside : InputsLeadInside g past

-- ---- what the store answers, and a commit that is taken up

abbrev pub answered : Past → VertexId → Bool → Past
answered past v there = extend past (asked_entries v there)

abbrev pub AnswersKeep : Dag → ConfValues → (Past → Type 0) → Type 0
AnswersKeep g c P = (past : Past) (v : VertexId) (there : Bool) → P past → enabled g c past (Ask v) ≡ true → P (answered past v there)

abbrev pub AnswersOweRight : Dag → Past → Type 0
AnswersOweRight g past = (v : VertexId) (there : Bool) → OwesRight g past (asked_entries v there)

abbrev pub taken_up : Dag → Past → Standing → ℕ → Past
taken_up g past s n = extend (opened_at s past) (committed_entries g (opened_at s past) s n)

-- what a master goes by, it goes by too once it has taken up a commit
abbrev pub IsSoundTakenUp : Dag → ConfValues → Past → Standing → ℕ → Type 0
IsSoundTakenUp g c past s n = 1 ≤ c.max_failed → Sound g c past → IsTrue (is_at_start past) → spent_in c s ≡ None → Sound g c (taken_up g past s n)

-- ---- runs

-- what a new master finds of each vertex agrees with how it stood last
abbrev pub FindsAgreeing : Past → Happening → Type 0
FindsAgreeing past (Start (Unfinished s)) = (x : ℕ × Config) → In x s.configured → IsTrue (agrees x.1.tasks x.1.base (last_config x.0 false past))
FindsAgreeing past (Start (Committed s n)) = (x : ℕ × Config) → In x s.configured → IsTrue (agrees x.1.tasks x.1.base (last_config x.0 false past))
FindsAgreeing past (Start AllDone) = ⊤
FindsAgreeing past (Start Begun) = ⊤
FindsAgreeing past (Event e) = ⊤
FindsAgreeing past (Report a made) = ⊤
FindsAgreeing past (Answer v there) = ⊤
FindsAgreeing past (Stop cause) = ⊤

abbrev pub AllFindAgreeing : Dag → ConfValues → Run → List Happening → Type 0
AllFindAgreeing g c r [] = ⊤
AllFindAgreeing g c r (h ∷ hs) = FindsAgreeing r.past h × AllFindAgreeing g c (happens g c r h) hs

-- the last three as long as the run has not ended
pub record IsSound (g : Dag) (c : ConfValues) (r : Run) : Type 0 where
  pub made : IsMade g c r.past
  pub withdrawals : Obeys withdrawals_right g c r.past
  pub settled : owed g r.past ≡ []
  pub unspent : Obeys spent_right g c r.past
  pub starts : Obeys start_alone g c r.past
  pub between : r.verdict ≡ None → IsBetween r.past
  pub goes_on : r.verdict ≡ None → GoesOn r.past
  pub few : r.verdict ≡ None → FewFailures c r.past
