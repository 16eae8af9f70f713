-- What a history tells. A history is the trace with its latest entry first, so that every earlier moment is a tail of it:
-- each fact says what the latest entry makes of it, and else asks the moment before.
use Rattle.std.specs.Prelude.{ℕ, suc, ◌+◌, ◌%◌, Bool, true, false, not, ◌&&◌, ◌||◌, ◌==◌, if◌then◌else◌, List, [], ◌∷◌, Option, Some, None, is_some}
use Rattle.std.specs.List.{count_by}
use Rattle.tez_ids.specs.declared.TaskId.{TaskId}
use Rattle.tez_ids.specs.declared.AttemptId.{AttemptId}
use Rattle.tez_events.specs.declared.KillCause.TheVariants.{Preempt}
use Rattle.tez_events.specs.declared.Entry.{Entry}
use Rattle.tez_events.specs.declared.Entry.TheVariants.{Opened, Over, Stands, Carried, Kept, Configured, Queued, Placed, Fetched, Ordered, Succeeded, Made, Failed, Killed, NodeLost, OutputLost, Rerun, Stopped, Committing, Ready, Asked, Settled, Published, CommitStarted, Finished, Purged}
use Rattle.tez_ids.specs.Same.{same_task, same_attempt}
use Rattle.tez_conf.specs.declared.values.ConfValues.{ConfValues}
use Rattle.tez_vman.specs.declared.seen.Config.{Config}
use Rattle.tez_vman.specs.Rules.{config as shape}
use Rattle.tez_history.specs.Shape.{numbers_below, places, slot_of}

abbrev pub Past : Type 0
Past = List Entry

-- entries in order of time, added to a history
abbrev pub extend : Past → List Entry → Past
extend past [] = past
extend past (e ∷ es) = extend (e ∷ past) es

-- the epoch of the last open; an open that found the end counts one on
abbrev pub epoch : Past → ℕ
epoch [] = 0
epoch (Opened e ∷ past) = e.0
epoch (Over ∷ past) = suc (epoch past)
epoch (_ ∷ past) = epoch past

-- whether the master is up
abbrev pub is_up : Past → Bool
is_up [] = false
is_up (Opened _ ∷ past) = true
is_up (Over ∷ past) = true
is_up (Stopped _ ∷ past) = false
is_up (Purged ∷ past) = false
is_up (_ ∷ past) = is_up past

-- the tasks and base of a vertex, once configured since the last open; they stay in force after a stop until the next open
abbrev pub config : ℕ → Past → Option Config
config v [] = None
config v (Opened _ ∷ past) = None
config v (Over ∷ past) = None
config v (Stands w tasks base ∷ past) = if w.0 == v then Some (shape tasks base) else config v past
config v (Configured w tasks base ∷ past) = if w.0 == v then Some (shape tasks base) else config v past
config v (_ ∷ past) = config v past

-- how many attempts of a task were queued in the present epoch
abbrev pub attempts : TaskId → Past → ℕ
attempts t [] = 0
attempts t (Opened _ ∷ past) = 0
attempts t (Over ∷ past) = 0
attempts t (Queued a ∷ past) = (if same_task a.task t then 1 else 0) + attempts t past
attempts t (_ ∷ past) = attempts t past

-- whether a task was kept or queued since the last open
abbrev pub is_scheduled : TaskId → Past → Bool
is_scheduled t [] = false
is_scheduled t (Opened _ ∷ past) = false
is_scheduled t (Over ∷ past) = false
is_scheduled t (Stopped _ ∷ past) = false
is_scheduled t (Kept a ∷ past) = same_task a.task t || is_scheduled t past
is_scheduled t (Queued a ∷ past) = same_task a.task t || is_scheduled t past
is_scheduled t (_ ∷ past) = is_scheduled t past

-- where an attempt stands: not of this epoch, queued, waiting at a place, processing there, or ended
pub data Stage : Type 0 where
  Unknown : Stage
  InQueue : Stage
  Waits : ℕ → Stage
  Runs : ℕ → Stage
  Ended : Stage

abbrev pub sent : Bool → Stage → Stage
sent true (Waits place) = Runs place
sent true Unknown = Unknown
sent true InQueue = InQueue
sent true (Runs place) = Runs place
sent true Ended = Ended
sent false s = s

abbrev pub stage : AttemptId → Past → Stage
stage a [] = Unknown
stage a (Opened _ ∷ past) = Unknown
stage a (Over ∷ past) = Unknown
stage a (Stopped _ ∷ past) = Unknown
stage a (Queued b ∷ past) = if same_attempt b a then InQueue else stage a past
stage a (Placed b _ place ∷ past) = if same_attempt b a then Waits place else stage a past
stage a (Ordered b ∷ past) = sent (same_attempt b a) (stage a past)
stage a (Succeeded b ∷ past) = if same_attempt b a then Ended else stage a past
stage a (Failed b ∷ past) = if same_attempt b a then Ended else stage a past
stage a (Killed b _ ∷ past) = if same_attempt b a then Ended else stage a past
stage a (_ ∷ past) = stage a past

-- the attempt of a task that was queued and has not ended
abbrev pub live : TaskId → Past → Option AttemptId
live t [] = None
live t (Opened _ ∷ past) = None
live t (Over ∷ past) = None
live t (Stopped _ ∷ past) = None
live t (Queued a ∷ past) = if same_task a.task t then Some a else live t past
live t (Succeeded a ∷ past) = if same_task a.task t then None else live t past
live t (Failed a ∷ past) = if same_task a.task t then None else live t past
live t (Killed a _ ∷ past) = if same_task a.task t then None else live t past
live t (_ ∷ past) = live t past

-- the attempt that was here, unless it is this one
abbrev pub freed : AttemptId → Option AttemptId → Option AttemptId
freed a None = None
freed a (Some b) = if same_attempt a b then None else Some b

-- the winner of a task: its last attempt in `done` or `kept`, unless it was withdrawn or a stop came since
abbrev pub winner : TaskId → Past → Option AttemptId
winner t [] = None
winner t (Opened _ ∷ past) = None
winner t (Over ∷ past) = None
winner t (Stopped _ ∷ past) = None
winner t (Kept a ∷ past) = if same_task a.task t then Some a else winner t past
winner t (Succeeded a ∷ past) = if same_task a.task t then Some a else winner t past
winner t (Rerun a ∷ past) = freed a (winner t past)
winner t (_ ∷ past) = winner t past

-- the failures of a task, those read from the journal among them
abbrev pub failures : TaskId → Past → ℕ
failures t [] = 0
failures t (Opened _ ∷ past) = 0
failures t (Over ∷ past) = 0
failures t (Carried s n ∷ past) = if same_task s t then n else failures t past
failures t (Failed a ∷ past) = (if same_task a.task t then 1 else 0) + failures t past
failures t (_ ∷ past) = failures t past

-- who holds a place
abbrev pub released : Bool → Option AttemptId → Option AttemptId
released true holder = None
released false holder = holder

abbrev pub is_attempt : AttemptId → Option AttemptId → Bool
is_attempt a None = false
is_attempt a (Some b) = same_attempt a b

abbrev pub holder : ℕ → Past → Option AttemptId
holder p [] = None
holder p (Stopped _ ∷ past) = None
holder p (Placed a _ place ∷ past) = if place == p then Some a else holder p past
holder p (Succeeded a ∷ past) = freed a (holder p past)
holder p (Failed a ∷ past) = freed a (holder p past)
holder p (Killed a _ ∷ past) = freed a (holder p past)
holder p (_ ∷ past) = holder p past

-- how many places below p are held
abbrev pub held_below : ℕ → Past → ℕ
held_below p past = count_by (λ q. is_some (holder q past)) (numbers_below p)

-- how many places give up their container, and so get a new number: those that an entry frees, with `reuse` off
abbrev pub given_up : ConfValues → ℕ → Past → ℕ
given_up c n past = if c.reuse then 0 else n

abbrev pub holds_place : Stage → ℕ
holds_place (Waits place) = 1
holds_place (Runs place) = 1
holds_place Unknown = 0
holds_place InQueue = 0
holds_place Ended = 0

-- the next container number
abbrev pub next_container : ConfValues → Past → ℕ
next_container c [] = places c
next_container c (NodeLost _ _ ∷ past) = next_container c past + c.per_node
next_container c (Succeeded a ∷ past) = next_container c past + given_up c (holds_place (stage a past)) past
next_container c (Failed a ∷ past) = next_container c past + given_up c (holds_place (stage a past)) past
next_container c (Killed a Preempt ∷ past) = next_container c past + given_up c (holds_place (stage a past)) past
next_container c (Stopped _ ∷ past) = next_container c past + given_up c (held_below (places c) past) past
next_container c (_ ∷ past) = next_container c past

-- the container number of a place
abbrev pub container_of : ConfValues → ℕ → Past → ℕ
container_of c p [] = p
container_of c p (NodeLost slot _ ∷ past) = if slot_of c p == slot then next_container c past + p % c.per_node else container_of c p past
container_of c p (Succeeded a ∷ past) = if not c.reuse && is_attempt a (holder p past) then next_container c past else container_of c p past
container_of c p (Failed a ∷ past) = if not c.reuse && is_attempt a (holder p past) then next_container c past else container_of c p past
container_of c p (Killed a Preempt ∷ past) = if not c.reuse && is_attempt a (holder p past) then next_container c past else container_of c p past
container_of c p (Stopped _ ∷ past) = if not c.reuse && is_some (holder p past) then next_container c past + held_below p past else container_of c p past
container_of c p (_ ∷ past) = container_of c p past

-- the life of a node slot
abbrev pub life : ℕ → Past → ℕ
life slot [] = 0
life slot (NodeLost s l ∷ past) = if s == slot then l else life slot past
life slot (_ ∷ past) = life slot past

-- where the pieces of an attempt lie: nowhere, on a node slot, or there but to be kept or dropped by the open that goes on
pub data Location : Type 0 where
  Nowhere : Location
  On : ℕ → Location
  InQuestion : ℕ → Location

abbrev pub put_by : ConfValues → Stage → Location
put_by c (Runs place) = On (slot_of c place)
put_by c Unknown = Nowhere
put_by c InQueue = Nowhere
put_by c (Waits place) = Nowhere
put_by c Ended = Nowhere

abbrev pub questioned : Location → Location
questioned (On slot) = InQuestion slot
questioned Nowhere = Nowhere
questioned (InQuestion slot) = Nowhere

abbrev pub kept_there : Bool → Location → Location
kept_there true (InQuestion slot) = On slot
kept_there true Nowhere = Nowhere
kept_there true (On slot) = On slot
kept_there false l = l

abbrev pub lost_on : ℕ → Location → Location
lost_on slot (On s) = if s == slot then Nowhere else On s
lost_on slot Nowhere = Nowhere
lost_on slot (InQuestion s) = if s == slot then Nowhere else InQuestion s

abbrev pub location : ConfValues → AttemptId → Past → Location
location c a [] = Nowhere
location c a (Succeeded b ∷ past) = if same_attempt b a then put_by c (stage a past) else location c a past
location c a (OutputLost b ∷ past) = if same_attempt b a then Nowhere else location c a past
location c a (NodeLost slot _ ∷ past) = lost_on slot (location c a past)
location c a (Opened _ ∷ past) = questioned (location c a past)
location c a (Kept b ∷ past) = kept_there (same_attempt b a) (location c a past)
location c a (_ ∷ past) = location c a past

-- whether an attempt has fetched an input of an edge since the last open
abbrev pub is_fetched : AttemptId → ℕ → ℕ → Past → Bool
is_fetched a e i [] = false
is_fetched a e i (Opened _ ∷ past) = false
is_fetched a e i (Over ∷ past) = false
is_fetched a e i (Stopped _ ∷ past) = false
is_fetched a e i (Fetched b d j _ ∷ past) = (same_attempt b a && ((d.0 == e) && (j == i))) || is_fetched a e i past
is_fetched a e i (_ ∷ past) = is_fetched a e i past

-- the bytes that an attempt made for an edge
abbrev pub made_bytes : AttemptId → ℕ → Past → ℕ
made_bytes a e [] = 0
made_bytes a e (Made b d n ∷ past) = if same_attempt b a && (d.0 == e) then n else made_bytes a e past
made_bytes a e (_ ∷ past) = made_bytes a e past

-- whether a sink counts as readied
abbrev pub is_readied : ℕ → Past → Bool
is_readied v [] = false
is_readied v (Ready w ∷ past) = (w.0 == v) || is_readied v past
is_readied v (Rerun _ ∷ past) = false
is_readied v (Opened _ ∷ past) = false
is_readied v (_ ∷ past) = is_readied v past

-- whether the commit has started, or the open found it so
abbrev pub is_committing : Past → Bool
is_committing [] = false
is_committing (CommitStarted ∷ past) = true
is_committing (Committing n ∷ past) = true
is_committing (Opened _ ∷ past) = false
is_committing (Stopped _ ∷ past) = false
is_committing (_ ∷ past) = is_committing past

-- whether the last open found a commit that had started
abbrev pub is_found : Past → Bool
is_found [] = false
is_found (Committing n ∷ past) = true
is_found (Opened _ ∷ past) = false
is_found (Stopped _ ∷ past) = false
is_found (_ ∷ past) = is_found past

-- how many sinks the journal is known to have recorded: of all sinks the first ones, since they are recorded in their order
abbrev pub recorded : Past → ℕ
recorded [] = 0
recorded (Committing n ∷ past) = n
recorded (Settled v ∷ past) = suc (recorded past)
recorded (Published v ∷ past) = suc (recorded past)
recorded (_ ∷ past) = recorded past

-- whether the store was asked of a sink since the last open, and did not have it
abbrev pub was_asked : ℕ → Past → Bool
was_asked v [] = false
was_asked v (Asked w ∷ past) = (w.0 == v) || was_asked v past
was_asked v (Opened _ ∷ past) = false
was_asked v (_ ∷ past) = was_asked v past

-- whether the journal says that all is done
abbrev pub is_finished : Past → Bool
is_finished [] = false
is_finished (Finished ∷ past) = true
is_finished (Over ∷ past) = true
is_finished (Opened _ ∷ past) = false
is_finished (_ ∷ past) = is_finished past

-- how often the master stopped
abbrev pub stops : Past → ℕ
stops [] = 0
stops (Stopped _ ∷ past) = suc (stops past)
stops (_ ∷ past) = stops past
