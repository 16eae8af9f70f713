-- The table that is kept while records are read: a row for each task of the plan.
--     progress p rs      the table of these records
--     after s r          the table with one record more
--     known_in s         what it tells of the records
--     listed s           the standing that it tells
use Rattle.std.specs.Prelude.{◌≡◌, ⊤, ℕ, ◌+◌, ◌-◌, ◌<◌, ◌≤◌, ◌^◌, min, Bool, true, false, List, map, length, take, Option, Some, None, is_some, slice_get}
use Rattle.std.specs.List.{flat_map, list_all}
use Rattle.std.specs.Option.{option_map_or, option_and_then}
use Rattle.tez_ids.specs.declared.VertexId.{VertexId}
use Rattle.tez_ids.specs.declared.TaskId.{TaskId}
use Rattle.tez_ids.specs.declared.AttemptId.{AttemptId}
use Rattle.tez_ids.specs.Same.{task}
use Rattle.tez_lists.specs.Numbers.{numbers_from}
use Rattle.tez_plan.specs.Dag.{Dag, vertex, tasks_of}
use Rattle.tez_events.specs.declared.JournalRecord.{JournalRecord}
use Rattle.tez_events.specs.declared.JournalRecord.TheVariants.{Submitted, Opened, Configured, TaskSucceeded, AttemptFailed, CommitStarted, Finished, Version, SinkPublished}
use Rattle.tez_standing.specs.declared.state.Setting.{Setting}
use Rattle.tez_standing.specs.declared.state.Phase.{Phase}
use Rattle.tez_standing.specs.declared.state.Phase.TheVariants as phases
use Rattle.tez_standing.specs.declared.state.Standing.{Standing}
use Rattle.tez_standing.specs.declared.rows.TaskRow.{TaskRow}
use Rattle.tez_standing.specs.Standing.{Known, begun, epoch, version, setting, winner, failures, phase, setting_row, winner_row, failures_row, IsLegalTo}
use Rattle.tez_standing.specs.Table.{VertexState, ProgressState, change}

abbrev pub row : List JournalRecord → ℕ → ℕ → TaskRow
row rs v i = record { task = task v i; winner = winner rs (task v i); failures = failures rs (task v i) }

abbrev pub vertex_state : Dag → List JournalRecord → ℕ → VertexState
vertex_state p rs v = record { vertex = vertex v; setting = setting rs v; tasks = map (row rs v) (numbers_from 0 (tasks_of p v)) }

abbrev pub progress : Dag → List JournalRecord → ProgressState
progress p rs = record { begun = begun rs; epoch = epoch rs; version = version rs; phase = phase rs; vertices = map (vertex_state p rs) (numbers_from 0 (length p.vertices)) }

-- a task of which no record tells
abbrev pub new_row : ℕ → ℕ → TaskRow
new_row v i = record { task = task v i; winner = None; failures = 0 }

abbrev pub new_vertex : ℕ → ℕ → VertexState
new_vertex v tasks = record { vertex = vertex v; setting = None; tasks = map (new_row v) (numbers_from 0 tasks) }

-- ---- what it tells

abbrev pub has_won : TaskRow → Bool
has_won y = is_some y.winner

abbrev pub is_done : VertexState → Bool
is_done x = option_map_or (λ s. list_all has_won (take s.tasks x.tasks)) x.setting false

abbrev pub setting_in : List VertexState → ℕ → Option Setting
setting_in xs v = option_and_then (λ x. x.setting) (slice_get xs v)

abbrev pub known_in : ProgressState → Known
known_in s = record { begun = s.begun; epoch = s.epoch; version = s.version; phase = s.phase; complete = list_all is_done s.vertices; setting = setting_in s.vertices }

-- ---- one record more

abbrev pub row_with_winner : AttemptId → TaskRow → TaskRow
row_with_winner a y = record y { winner = Some a }

-- a count stands still at the end of its type
abbrev pub row_with_failure : TaskRow → TaskRow
row_with_failure y = record y { failures = min (y.failures + 1) (2 ^ 64 - 1) }

abbrev pub with_setting : Setting → VertexState → VertexState
with_setting s x = record x { setting = Some s }

abbrev pub with_winner : AttemptId → VertexState → VertexState
with_winner a x = record x { tasks = change a.task.index (row_with_winner a) x.tasks }

abbrev pub with_failure : AttemptId → VertexState → VertexState
with_failure a x = record x { tasks = change a.task.index row_with_failure x.tasks }

abbrev pub finished : Phase → Phase
finished phases.Running = phases.Running
finished (phases.CommitStarted sums n) = phases.Finished sums
finished (phases.Finished sums) = phases.Finished sums

abbrev pub one_more : Phase → Phase
one_more phases.Running = phases.Running
one_more (phases.CommitStarted sums n) = phases.CommitStarted sums (n + 1)
one_more (phases.Finished sums) = phases.Finished sums

-- the count of the recorded sinks has room for one more
abbrev pub CanCount : Phase → Type 0
CanCount phases.Running = ⊤
CanCount (phases.CommitStarted sums n) = n + 1 < 2 ^ 32
CanCount (phases.Finished sums) = ⊤

abbrev pub CanTake : JournalRecord → Phase → Type 0
CanTake (Submitted text) ph = ⊤
CanTake (Opened e) ph = ⊤
CanTake (Configured w tasks base) ph = ⊤
CanTake (TaskSucceeded a) ph = ⊤
CanTake (AttemptFailed a) ph = ⊤
CanTake (CommitStarted sums) ph = ⊤
CanTake Finished ph = ⊤
CanTake Version ph = ⊤
CanTake (SinkPublished w) ph = CanCount ph

abbrev pub after : ProgressState → JournalRecord → ProgressState
after s (Submitted text) = record s { begun = true }
after s (Opened e) = record s { begun = true; epoch = e.0 }
after s (Configured v tasks base) = record s { begun = true; vertices = change v.0 (with_setting (record { tasks = tasks; base = base })) s.vertices }
after s (TaskSucceeded a) = record s { begun = true; vertices = change a.task.vertex.0 (with_winner a) s.vertices }
after s (AttemptFailed a) = record s { begun = true; vertices = change a.task.vertex.0 (with_failure a) s.vertices }
after s (CommitStarted sums) = record s { begun = true; phase = phases.CommitStarted sums 0 }
after s Finished = record s { begun = true; phase = finished s.phase }
after s Version = record s { begun = true; version = 2 }
after s (SinkPublished w) = record s { begun = true; phase = one_more s.phase }

-- ---- the standing

abbrev pub setting_of : VertexState → List (VertexId × ℕ × ℕ)
setting_of x = setting_row x.vertex.0 x.setting

abbrev pub winner_of : TaskRow → List AttemptId
winner_of y = winner_row y.winner

abbrev pub failures_of : TaskRow → List (TaskId × ℕ)
failures_of y = failures_row y.task y.failures

abbrev pub winners_of : VertexState → List AttemptId
winners_of x = flat_map winner_of x.tasks

abbrev pub all_failures_of : VertexState → List (TaskId × ℕ)
all_failures_of x = flat_map failures_of x.tasks

abbrev pub listed : ProgressState → Standing
listed s = record {
  epoch = s.epoch;
  version = s.version;
  configured = flat_map setting_of s.vertices;
  winners = flat_map winners_of s.vertices;
  failures = flat_map all_failures_of s.vertices;
  phase = s.phase;
}

-- the settings are at vertices of the plan, and give them no more tasks than the plan
abbrev pub IsSized : Dag → List JournalRecord → Type 0
IsSized p rs = (v : ℕ) (s : Setting) → setting rs v ≡ Some s → (v < length p.vertices) × (s.tasks ≤ tasks_of p v)

-- the table holds the first n records, which are legal
pub record IsAt (p : Dag) (rs : List JournalRecord) (n : ℕ) (s : ProgressState) : Type 0 where
  pub state : s ≡ progress p (take n rs)
  pub sized : IsSized p (take n rs)
  pub legal : IsLegalTo p rs n
