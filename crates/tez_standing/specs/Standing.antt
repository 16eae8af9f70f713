-- What the records of a journal tell, and which lists of records are legal.
--     epoch rs                how many masters were opened, which is the epoch of the last
--     setting rs v            tasks and base of a vertex, by its Configured record
--     winner rs t             the last attempt of the task that succeeded
--     failures rs t           how many attempts of the task failed
--     version rs              2 where a record says so, else 1
--     published rs            how many sinks are recorded as published
--     phase rs                whether the commit has started, and whether it has finished
--     may_follow p rs r       the record may come after these
--     IsLegal p rs            each record may come after those before it
--     IsFirstIllegal p rs n   record n is the first that may not
--     standing p rs           all that the records tell, in order of vertices and tasks
use Rattle.std.specs.Prelude.{◌≡◌, ℕ, ◌+◌, ◌<◌, Bool, true, false, not, ◌&&◌, ◌||◌, ◌==◌, nat_lt, nat_le, if◌then◌else◌, List, [], ◌∷◌, length, take, count_by, Option, Some, None, is_some, is_none, unwrap_or, slice_get, IsTrue, IsFalse}
use Rattle.std.specs.List.{filter, find, flat_map, fold, list_all, list_any}
use Rattle.std.specs.Option.{option_or, option_map, option_map_or}
use Rattle.tez_ids.specs.declared.VertexId.{VertexId}
use Rattle.tez_ids.specs.declared.TaskId.{TaskId}
use Rattle.tez_ids.specs.declared.AttemptId.{AttemptId}
use Rattle.tez_ids.specs.Same.{task, same_task}
use Rattle.tez_lists.specs.Numbers.{numbers_from}
use Rattle.tez_shrink.specs.Formulas.{tasks_of as tasks_for}
use Rattle.tez_plan.specs.Dag.{Dag, vertex, from, to, tasks_of, is_one_to_one}
use Rattle.tez_events.specs.declared.JournalRecord.{JournalRecord}
use Rattle.tez_events.specs.declared.JournalRecord.TheVariants.{Submitted, Opened, Configured, TaskSucceeded, AttemptFailed, CommitStarted, Finished, Version, SinkPublished}
use Rattle.tez_standing.specs.declared.state.Setting.{Setting}
use Rattle.tez_standing.specs.declared.state.Phase.{Phase}
use Rattle.tez_standing.specs.declared.state.Phase.TheVariants as phases
use Rattle.tez_standing.specs.declared.state.Standing.{Standing}

-- ---- what one record tells

abbrev pub opens : JournalRecord → Bool
opens (Submitted text) = false
opens (Opened e) = true
opens (Configured v tasks base) = false
opens (TaskSucceeded a) = false
opens (AttemptFailed a) = false
opens (CommitStarted sums) = false
opens Finished = false
opens Version = false
opens (SinkPublished w) = false

abbrev pub sets : ℕ → JournalRecord → Option Setting
sets v (Submitted text) = None
sets v (Opened e) = None
sets v (Configured w tasks base) = if w.0 == v then Some (record { tasks = tasks; base = base }) else None
sets v (TaskSucceeded a) = None
sets v (AttemptFailed a) = None
sets v (CommitStarted sums) = None
sets v Finished = None
sets v Version = None
sets v (SinkPublished w) = None

abbrev pub wins : TaskId → JournalRecord → Option AttemptId
wins t (Submitted text) = None
wins t (Opened e) = None
wins t (Configured v tasks base) = None
wins t (TaskSucceeded a) = if same_task a.task t then Some a else None
wins t (AttemptFailed a) = None
wins t (CommitStarted sums) = None
wins t Finished = None
wins t Version = None
wins t (SinkPublished w) = None

abbrev pub fails : TaskId → JournalRecord → Bool
fails t (Submitted text) = false
fails t (Opened e) = false
fails t (Configured v tasks base) = false
fails t (TaskSucceeded a) = false
fails t (AttemptFailed a) = same_task a.task t
fails t (CommitStarted sums) = false
fails t Finished = false
fails t Version = false
fails t (SinkPublished w) = false

abbrev pub commits : JournalRecord → Option (List (ℕ × ℕ))
commits (Submitted text) = None
commits (Opened e) = None
commits (Configured v tasks base) = None
commits (TaskSucceeded a) = None
commits (AttemptFailed a) = None
commits (CommitStarted sums) = Some sums
commits Finished = None
commits Version = None
commits (SinkPublished w) = None

abbrev pub finishes : JournalRecord → Bool
finishes (Submitted text) = false
finishes (Opened e) = false
finishes (Configured v tasks base) = false
finishes (TaskSucceeded a) = false
finishes (AttemptFailed a) = false
finishes (CommitStarted sums) = false
finishes Finished = true
finishes Version = false
finishes (SinkPublished w) = false

abbrev pub is_version : JournalRecord → Bool
is_version (Submitted text) = false
is_version (Opened e) = false
is_version (Configured w tasks base) = false
is_version (TaskSucceeded a) = false
is_version (AttemptFailed a) = false
is_version (CommitStarted sums) = false
is_version Finished = false
is_version Version = true
is_version (SinkPublished w) = false

-- ---- what a list of records tells

-- what the last record tells that tells something
abbrev pub latest : {X : Type 0} → (JournalRecord → Option X) → List JournalRecord → Option X
latest tells [] = None
latest tells (r ∷ rs) = option_or (latest tells rs) (tells r)

abbrev pub begun : List JournalRecord → Bool
begun [] = false
begun (r ∷ rs) = true

abbrev pub epoch : List JournalRecord → ℕ
epoch rs = count_by opens rs

abbrev pub setting : List JournalRecord → ℕ → Option Setting
setting rs v = latest (sets v) rs

abbrev pub winner : List JournalRecord → TaskId → Option AttemptId
winner rs t = latest (wins t) rs

abbrev pub failures : List JournalRecord → TaskId → ℕ
failures rs t = count_by (fails t) rs

-- whether the last record is Finished
abbrev pub ends_finished : List JournalRecord → Bool
ends_finished rs = unwrap_or (latest (λ r. Some (finishes r)) rs) false

abbrev pub version : List JournalRecord → ℕ
version rs = if list_any is_version rs then 2 else 1

abbrev pub counted : ℕ → JournalRecord → ℕ
counted n (Submitted text) = n
counted n (Opened e) = n
counted n (Configured w tasks base) = n
counted n (TaskSucceeded a) = n
counted n (AttemptFailed a) = n
counted n (CommitStarted sums) = 0
counted n Finished = n
counted n Version = n
counted n (SinkPublished w) = n + 1

-- those since the commit started, where there are no others
abbrev pub published : List JournalRecord → ℕ
published rs = fold counted 0 rs

abbrev pub phase_by : Bool → ℕ → Option (List (ℕ × ℕ)) → Phase
phase_by finished n None = phases.Running
phase_by false n (Some sums) = phases.CommitStarted sums n
phase_by true n (Some sums) = phases.Finished sums

abbrev pub phase : List JournalRecord → Phase
phase rs = phase_by (ends_finished rs) (published rs) (latest commits rs)

abbrev pub is_running : Phase → Bool
is_running phases.Running = true
is_running (phases.CommitStarted sums n) = false
is_running (phases.Finished sums) = false

abbrev pub is_committing : Phase → Bool
is_committing phases.Running = false
is_committing (phases.CommitStarted sums n) = true
is_committing (phases.Finished sums) = false

-- every vertex has its tasks, and each of them has a winner
abbrev pub has_winners : List JournalRecord → ℕ → Bool
has_winners rs v = option_map_or (λ s. list_all (λ i. is_some (winner rs (task v i))) (numbers_from 0 s.tasks)) (setting rs v) false

abbrev pub is_complete : Dag → List JournalRecord → Bool
is_complete p rs = list_all (has_winners rs) (numbers_from 0 (length p.vertices))

-- ---- which record may come next

-- what the rules ask of the records before
pub record Known : Type 0 where
  pub begun : Bool
  pub epoch : ℕ
  pub version : ℕ
  pub phase : Phase
  pub complete : Bool
  pub setting : ℕ → Option Setting

abbrev pub known : Dag → List JournalRecord → Known
known p rs = record { begun = begun rs; epoch = epoch rs; version = version rs; phase = phase rs; complete = is_complete p rs; setting = setting rs }

abbrev pub has_source : Dag → ℕ → Bool
has_source p v = option_map_or (λ s. is_some s.source) (slice_get p.vertices v) false

-- the vertex from which a one-to-one edge leads to v
abbrev pub feeder : Dag → ℕ → Option ℕ
feeder p v = option_map (from p) (find (λ e. is_one_to_one e && (to p e == v)) p.edges)

-- as many tasks as take the partitions by runs of base
abbrev pub takes_parts : ℕ → Setting → Bool
takes_parts parts s = nat_le 1 s.base && (nat_le s.base parts && s.tasks == tasks_for parts s.base)

abbrev pub fits_feeder : Dag → (ℕ → Option Setting) → ℕ → Setting → Option ℕ → Bool
fits_feeder p settings v s None = takes_parts (tasks_of p v) s
fits_feeder p settings v s (Some u) = s.base == 1 && option_map_or (λ x. s.tasks == x.tasks) (settings u) false

-- A source vertex has the tasks of the plan, a one-to-one vertex those of the vertex that feeds it, and both have base 1.
abbrev pub fits_vertex : Dag → (ℕ → Option Setting) → ℕ → Setting → Bool
fits_vertex p settings v s = if has_source p v then s.tasks == tasks_of p v && s.base == 1 else fits_feeder p settings v s (feeder p v)

abbrev pub may_configure : Dag → (ℕ → Option Setting) → ℕ → Setting → Bool
may_configure p settings v s = nat_lt v (length p.vertices) && (is_none (settings v) && fits_vertex p settings v s)

-- an attempt of the present epoch, at a task of a configured vertex
abbrev pub is_present : Known → AttemptId → Bool
is_present k a = a.epoch.0 == k.epoch && option_map_or (λ s. nat_lt a.task.index s.tasks) (k.setting a.task.vertex.0) false

abbrev pub sinks : Dag → ℕ
sinks p = count_by (λ s. is_some s.sink) p.vertices

-- the vertices with a sink, in their order
abbrev pub has_sink : Dag → ℕ → Bool
has_sink p v = option_map_or (λ s. is_some s.sink) (slice_get p.vertices v) false

abbrev pub sink_vertices : Dag → List ℕ
sink_vertices p = filter (has_sink p) (numbers_from 0 (length p.vertices))

-- the sink that is recorded next in a commit that has started, None once each is
abbrev pub next_sink : Dag → Phase → Option ℕ
next_sink p phases.Running = None
next_sink p (phases.CommitStarted sums n) = slice_get (sink_vertices p) n
next_sink p (phases.Finished sums) = None

-- a master was opened, and no commit has started
abbrev pub is_open : Known → Bool
is_open k = nat_lt 0 k.epoch && is_running k.phase

-- a master may be opened: the job is not finished, and from version 2 on also once the commit has started
abbrev pub goes_on : Known → Bool
goes_on k = is_running k.phase || (k.version == 2 && is_committing k.phase)

abbrev pub fits : Dag → Known → JournalRecord → Bool
fits p k (Submitted text) = not k.begun
fits p k (Opened e) = k.begun && (goes_on k && e.0 == k.epoch + 1)
fits p k (Configured v tasks base) = is_open k && may_configure p k.setting v.0 (record { tasks = tasks; base = base })
fits p k (TaskSucceeded a) = is_open k && is_present k a
fits p k (AttemptFailed a) = is_open k && is_present k a
fits p k (CommitStarted sums) = is_open k && (length sums == sinks p && k.complete)
fits p k Finished = is_committing k.phase && (k.version == 1 || is_none (next_sink p k.phase))
fits p k Version = k.begun && (k.version == 1 && is_running k.phase)
fits p k (SinkPublished w) = k.version == 2 && option_map_or (λ v. v == w.0) (next_sink p k.phase) false

abbrev pub may_follow : Dag → List JournalRecord → JournalRecord → Bool
may_follow p rs r = fits p (known p rs) r

-- ---- legal lists

-- the first n records are legal
abbrev pub IsLegalTo : Dag → List JournalRecord → ℕ → Type 0
IsLegalTo p rs n = (k : ℕ) (r : JournalRecord) → k < n → slice_get rs k ≡ Some r → IsTrue (may_follow p (take k rs) r)

abbrev pub IsLegal : Dag → List JournalRecord → Type 0
IsLegal p rs = IsLegalTo p rs (length rs)

pub record IsFirstIllegal (p : Dag) (rs : List JournalRecord) (n : ℕ) : Type 0 where
  pub before : IsLegalTo p rs n
  pub breaks : (r : JournalRecord) × (slice_get rs n ≡ Some r) × IsFalse (may_follow p (take n rs) r)

-- ---- the standing

abbrev pub setting_row : ℕ → Option Setting → List (VertexId × ℕ × ℕ)
setting_row v None = []
setting_row v (Some s) = (vertex v, s.tasks, s.base) ∷ []

abbrev pub winner_row : Option AttemptId → List AttemptId
winner_row None = []
winner_row (Some a) = a ∷ []

abbrev pub failures_row : TaskId → ℕ → List (TaskId × ℕ)
failures_row t n = if n == 0 then [] else (t, n) ∷ []

-- one list for each task of the vertex
abbrev pub each_task : {X : Type 0} → Dag → (TaskId → List X) → ℕ → List X
each_task p f v = flat_map (λ i. f (task v i)) (numbers_from 0 (tasks_of p v))

abbrev pub each_vertex : {X : Type 0} → Dag → (ℕ → List X) → List X
each_vertex p f = flat_map f (numbers_from 0 (length p.vertices))

abbrev pub standing : Dag → List JournalRecord → Standing
standing p rs = record {
  epoch = epoch rs;
  version = version rs;
  configured = each_vertex p (λ v. setting_row v (setting rs v));
  winners = each_vertex p (each_task p (λ t. winner_row (winner rs t)));
  failures = each_vertex p (each_task p (λ t. failures_row t (failures rs t)));
  phase = phase rs;
}
