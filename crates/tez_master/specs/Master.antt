-- A master with an answer that is not settled yet.
--     Step                      what an answer is about: an event, the report of an attempt with the bytes of its pieces by edge, or
--                               what the store told of a sink
--     settled_by m s            the state once the answer is settled
--     is_single m e             the answer is one entry, and takes no memory
--     entries_told, records_told, ordered_told, spent_told      what an answer tells
--     IsIgnoredFor h why        the event is ignored, and why
--     IsReadyFor m x, step_of x  what an answer that is not settled needs, and what it is about
--     HasNumbers m              attempts, lives and containers can be numbered on, and each node has a life
use Rattle.std.specs.Prelude.{◌≡◌, ℕ, ◌<◌, ◌≤◌, ◌^◌, ⊤, Bool, true, false, if◌then◌else◌, List, [], ◌∷◌, length, slice_get, Option, Some, None}
use Rattle.tez_ids.specs.declared.VertexId.{VertexId}
use Rattle.tez_ids.specs.declared.TaskId.{TaskId}
use Rattle.tez_ids.specs.declared.EdgeId.{EdgeId}
use Rattle.tez_ids.specs.declared.AttemptId.{AttemptId}
use Rattle.tez_events.specs.declared.Entry.{Entry}
use Rattle.tez_events.specs.declared.Entry.TheVariants.{Made}
use Rattle.tez_events.specs.declared.JournalRecord.{JournalRecord}
use Rattle.tez_events.specs.declared.CoreEvent.{CoreEvent}
use Rattle.tez_events.specs.declared.CoreEvent.TheVariants.{Open, Configure, Queue, Place, Fetch, Send, Preempt, Fail, LoseNode, LoseOutput, Restart, Ready, CommitStart, Ask, Publish, Finish, Purge}
use Rattle.tez_master_model.specs.declared.why.Why.{Why}
use Rattle.tez_master_model.specs.State.{MasterState}
use Rattle.tez_master_model.specs.Read.{processes}
use Rattle.tez_master_model.specs.Enabled.{enabled_in, may_ask}
use Rattle.tez_master_model.specs.Entries.{is_last_in}
use Rattle.tez_master_model.specs.Settled.{settled, after_done, after_asked}
use Rattle.tez_core.specs.Prepared.{IsPreparedFor, IsAdmissionFor}
use Rattle.tez_lead.specs.Losing.{HasRooms}
use Rattle.tez_master.specs.declared.pending.Pending.{Pending}
use Rattle.tez_master.specs.declared.pending.Pending.TheVariants as pending
use Rattle.tez_master.specs.declared.handled.Handled.{Handled}
use Rattle.tez_master.specs.declared.handled.Handled.TheVariants.{Done, Single, Ignored}

pub data Step : Type 0 where
  Took : (event : CoreEvent) → Step
  Reported : (attempt : AttemptId) → (made : List (EdgeId × ℕ)) → Step
  Asked : (vertex : VertexId) → (there : Bool) → Step

pub record MasterParts : Type 0 where
  pub state : MasterState
  pub pending : Option Step

abbrev pub settled_by : MasterState → Step → MasterState
settled_by m (Took e) = settled m e
settled_by m (Reported a made) = after_done m a made
settled_by m (Asked v there) = after_asked m v.0 there

-- ---- what an answer tells

-- publishing and what follows it, and losses once the commit has started
abbrev pub is_single : MasterState → CoreEvent → Bool
is_single m Open = false
is_single m (Configure v) = false
is_single m (Queue t) = false
is_single m (Place a p) = false
is_single m (Fetch a e i) = false
is_single m (Send a) = false
is_single m (Preempt a) = false
is_single m (Fail a) = false
is_single m (LoseNode slot) = m.committing
is_single m (LoseOutput t) = m.committing
is_single m Restart = false
is_single m (Ready v) = false
is_single m CommitStart = false
is_single m (Ask v) = false
is_single m (Publish v) = true
is_single m Finish = true
is_single m Purge = true

abbrev pub is_ignored : Handled → Bool
is_ignored (Done effects) = false
is_ignored (Single entry kept) = false
is_ignored (Ignored why) = true

abbrev pub is_single_answer : Handled → Bool
is_single_answer (Done effects) = false
is_single_answer (Single entry kept) = true
is_single_answer (Ignored why) = false

abbrev pub IsIgnoredFor : Handled → Why → Type 0
IsIgnoredFor (Done effects) why = ⊤
IsIgnoredFor (Single entry kept) why = ⊤
IsIgnoredFor (Ignored given) why = given ≡ why

abbrev pub entries_told : Handled → List Entry
entries_told (Done effects) = effects.entries.items
entries_told (Single entry kept) = entry ∷ []
entries_told (Ignored why) = []

abbrev pub as_list : Option JournalRecord → List JournalRecord
as_list None = []
as_list (Some r) = r ∷ []

abbrev pub records_told : Handled → List JournalRecord
records_told (Done effects) = effects.records.items
records_told (Single entry kept) = as_list kept
records_told (Ignored why) = []

abbrev pub spent_told : Handled → Option TaskId
spent_told (Done effects) = effects.spent
spent_told (Single entry kept) = None
spent_told (Ignored why) = None

abbrev pub ordered_told : Handled → Option AttemptId
ordered_told (Done effects) = effects.ordered
ordered_told (Single entry kept) = None
ordered_told (Ignored why) = None

-- what a report adds of one edge
abbrev pub made_line : AttemptId → EdgeId × ℕ → Entry
made_line a m = Made a m.0 m.1

-- the attempt whose order an event sends
abbrev pub ordered_in : CoreEvent → Option AttemptId
ordered_in (Send a) = Some a
ordered_in _ = None

-- the task that an event spends
abbrev pub spent_in : MasterState → CoreEvent → Option TaskId
spent_in m (Fail a) = if is_last_in m a.task then Some a.task else None
spent_in m _ = None

-- ---- what an unsettled answer needs

-- the event needs no memory
abbrev pub IsUnprepared : CoreEvent → Type 0
IsUnprepared (Configure v) = ⊥
IsUnprepared (Place a p) = ⊥
IsUnprepared _ = ⊤

-- the event that it is about may come, and what was prepared fits
abbrev pub IsReadyFor : MasterState → Pending → Type 0
IsReadyFor m (pending.Event e) = (enabled_in m e ≡ true) × IsUnprepared e
IsReadyFor m (pending.Configure v x) = (enabled_in m (Configure v) ≡ true) × IsPreparedFor m v x
IsReadyFor m (pending.Place a p x) = (enabled_in m (Place a p) ≡ true) × IsAdmissionFor m a x
IsReadyFor m (pending.Report a made) = processes m a ≡ true
IsReadyFor m (pending.Asked v there) = may_ask m v.0 ≡ true

abbrev pub step_of : Pending → Step
step_of (pending.Event e) = Took e
step_of (pending.Configure v x) = Took (Configure v)
step_of (pending.Place a p x) = Took (Place a p)
step_of (pending.Report a made) = Reported a made.items
step_of (pending.Asked v there) = Asked v there

-- ---- rooms

-- attempts, lives and containers can be numbered on, and each node has a life
pub record HasNumbers (m : MasterState) : Type 0 where
  pub tasks : HasRooms m
  pub nodes : m.conf.nodes ≤ length m.pool.lives
  pub lives : (slot life : ℕ) → slice_get m.pool.lives slot ≡ Some life → life < 2 ^ 63
  pub containers : m.pool.next < 2 ^ 126
