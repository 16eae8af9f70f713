-- How a new master begins, in the words of a history.
--     knowing_no_sink m           a master once it knows nothing of the sinks
--     has_committed past          a commit has started in it, be it under an earlier master
--     as_found s ks               what it finds, as a run has it
--     open_of s past              the entry that opens it, or that tells that the job is over
--     start_of g c past s ks      the history once it has begun
--     start_entries s past ks     the entries of that, where all that is found is taken
--     new_master g c past s ks    the master once it has begun
--     is_task_of s t              a task of the vertices that are configured
--     IsRightFor g s              a standing that the plan can have
--     HaveFailed c s              no task has failed as often as it may
--     IsGoingOn g c past s ks     what is kept is what the history says of winners of the standing
--     IsWholeOf g s ks            each vertex stands, and each of its tasks is kept
--     IsTakenUp g c past s ks n   so is what is kept of a commit that has started, with n sinks recorded
--     IsFoundAt g c past s ks     so it is where the job goes on, and where a commit has started all is kept
use Rattle.std.specs.Prelude.{◌≡◌, ◌≢◌, ℕ, suc, max, ◌<◌, ◌≤◌, ⊤, ◌==◌, nat_lt, if◌then◌else◌, Bool, true, false, List, [], ◌∷◌, ◌++◌, map, length, None}
use Rattle.std.specs.Option.{option_map_or}
use Rattle.tez_ids.specs.declared.VertexId.{VertexId}
use Rattle.tez_ids.specs.declared.TaskId.{TaskId}
use Rattle.tez_ids.specs.declared.AttemptId.{AttemptId}
use Rattle.tez_ids.specs.Same.{task}
use Rattle.tez_lists.specs.Numbers.{In}
use Rattle.tez_plan.specs.Dag.{Dag, tasks_of as planned}
use Rattle.tez_conf.specs.declared.values.ConfValues.{ConfValues}
use Rattle.tez_events.specs.declared.Entry.{Entry}
use Rattle.tez_events.specs.declared.Entry.TheVariants.{Opened, Over, Stands, Carried, Kept, Committing}
use Rattle.tez_events.specs.declared.Entry.TheVariants.{CommitStarted as CommitBegun}
use Rattle.tez_standing.specs.declared.state.Phase.{Phase}
use Rattle.tez_standing.specs.declared.state.Phase.TheVariants.{Running, CommitStarted, Finished}
use Rattle.tez_standing.specs.declared.state.Standing.{Standing}
use Rattle.tez_history.specs.Shape.{vertices}
use Rattle.tez_history.specs.History.{Past, epoch, location, is_readied, was_asked, recorded}
use Rattle.tez_history.specs.Runs.{Found, Unfinished, AllDone, Committed, Begun, opened_by}
use Rattle.tez_history.specs.Runs.{Standing as Ground}
use Rattle.tez_progress.specs.Laws.{Fits, found_at, found_configs}
use Rattle.tez_pool_view.specs.View.{pool_view}
use Rattle.tez_schedule_view.specs.Events.{Tells}
use Rattle.tez_master_model.specs.State.{MasterState}
use Rattle.tez_master_model.specs.Fresh.{fresh}
use Rattle.tez_master_view.specs.View.{slot_by}
use Rattle.tez_master_model.specs.Recovery.{KeptState, slot_kept, found}

-- no sink counts as readied, asked of or recorded
abbrev pub knowing_no_sink : MasterState → MasterState
knowing_no_sink m = record m { readied = map (λ b. false) m.readied; asked = map (λ b. false) m.asked; recorded = 0 }

abbrev pub has_committed : Past → Bool
has_committed [] = false
has_committed (CommitBegun ∷ past) = true
has_committed (Committing n ∷ past) = true
has_committed (_ ∷ past) = has_committed past

-- ---- what it finds, and the history once it has begun

abbrev pub as_ground : Standing → List KeptState → Ground
as_ground s ks = record { epoch = s.epoch; configured = found_configs s.configured; failed = s.failures; kept = map (λ k. k.attempt) ks }

-- a journal of the first version does not tell which sinks are published: from its commit no master goes on
abbrev pub committed_in : ℕ → Ground → ℕ → Found
committed_in version x n = if version == 2 then Committed x n else Begun

abbrev pub found_in : Phase → ℕ → Ground → Found
found_in Running version x = Unfinished x
found_in (CommitStarted sums n) version x = committed_in version x n
found_in (Finished sums) version x = AllDone

abbrev pub as_found : Standing → List KeptState → Found
as_found s ks = found_in s.phase s.version (as_ground s ks)

-- its epoch is above the last one that is found, and above each before
abbrev pub open_in : Phase → ℕ → Past → Entry
open_in Running last past = Opened (record { 0 = suc (max last (epoch past)) })
open_in (CommitStarted sums n) last past = Opened (record { 0 = suc (max last (epoch past)) })
open_in (Finished sums) last past = Over

abbrev pub open_of : Standing → Past → Entry
open_of s past = open_in s.phase s.epoch past

abbrev pub start_of : Dag → ConfValues → Past → Standing → List KeptState → Past
start_of g c past s ks = (opened_by g c (record { past = past; verdict = None }) (as_found s ks)).past

-- where nothing of it is left out
abbrev pub stands_entry : VertexId × ℕ × ℕ → Entry
stands_entry x = Stands x.0 x.1 x.2

abbrev pub carried_entry : TaskId × ℕ → Entry
carried_entry x = Carried x.0 x.1

abbrev pub kept_entry : KeptState → Entry
kept_entry k = Kept k.attempt

abbrev pub found_entries : Standing → List KeptState → List Entry
found_entries s ks = map stands_entry s.configured ++ (map carried_entry s.failures ++ map kept_entry ks)

abbrev pub entries_in : Phase → Standing → List KeptState → List Entry
entries_in Running s ks = found_entries s ks
entries_in (CommitStarted sums n) s ks = found_entries s ks ++ Committing n ∷ []
entries_in (Finished sums) s ks = []

abbrev pub start_entries : Standing → Past → List KeptState → List Entry
start_entries s past ks = open_of s past ∷ entries_in s.phase s ks

-- ---- the master: it takes over the places, and what is known of the sinks

abbrev pub begun_by : Dag → ConfValues → Past → Past → MasterState
begun_by g c past first =
    record (fresh g c (epoch first) (pool_view c past)) {
      readied = map (λ v. is_readied v first) (vertices g);
      asked = map (λ v. was_asked v first) (vertices g);
      recorded = recorded first;
    }

abbrev pub begun : Dag → ConfValues → Past → Standing → MasterState
begun g c past s = begun_by g c past (open_of s past ∷ past)

abbrev pub new_master : Dag → ConfValues → Past → Standing → List KeptState → MasterState
new_master g c past s ks = found (begun g c past s) s ks

-- ---- what can be found

abbrev pub is_task_in : List (VertexId × ℕ × ℕ) → TaskId → Bool
is_task_in xs t = option_map_or (λ x. nat_lt t.index x.tasks) (found_at (found_configs xs) t.vertex.0) false

abbrev pub is_task_of : Standing → TaskId → Bool
is_task_of s t = is_task_in s.configured t

-- a vertex of the plan has no more tasks than there, and each takes one partition or more, and no more than there are
pub record IsSizedFor (g : Dag) (x : VertexId × ℕ × ℕ) : Type 0 where
  pub inside : x.0.0 < length g.vertices
  pub few : x.1 ≤ planned g x.0.0
  pub base : 1 ≤ x.2
  pub parts : x.2 ≤ planned g x.0.0

-- no vertex stands twice
abbrev pub AreOnce : List (VertexId × ℕ × ℕ) → Type 0
AreOnce [] = ⊤
AreOnce (x ∷ xs) = ((y : VertexId × ℕ × ℕ) → In y xs → x.0.0 ≢ y.0.0) × AreOnce xs

pub record IsRightFor (g : Dag) (s : Standing) : Type 0 where
  pub fits : Fits g (found_at (found_configs s.configured))
  pub sized : (x : VertexId × ℕ × ℕ) → In x s.configured → IsSizedFor g x
  pub once : AreOnce s.configured
  pub failed : (x : TaskId × ℕ) → In x s.failures → is_task_of s x.0 ≡ true
  pub winners : (a : AttemptId) → In a s.winners → is_task_of s a.task ≡ true

abbrev pub HaveFailed : ConfValues → Standing → Type 0
HaveFailed c s = (x : TaskId × ℕ) → In x s.failures → x.1 < c.max_failed

-- its pieces lie where they lay, and it made what the history tells
pub record IsKeptAt (g : Dag) (c : ConfValues) (past : Past) (k : KeptState) : Type 0 where
  pub locations : slot_kept k ≡ slot_by (location c k.attempt past)
  pub made : Tells g past k.attempt k.made

pub record IsGoingOn (g : Dag) (c : ConfValues) (past : Past) (s : Standing) (ks : List KeptState) : Type 0 where
  pub right : IsRightFor g s
  pub few : HaveFailed c s
  pub winners : (k : KeptState) → In k ks → In k.attempt s.winners
  pub kept : (k : KeptState) → In k ks → IsKeptAt g c past k

-- winners of all tasks of a vertex that has so many
abbrev pub AreKeptAt : ℕ → ℕ → List KeptState → Type 0
AreKeptAt v tasks ks = (i : ℕ) → i < tasks → (k : KeptState) × In k ks × (k.attempt.task ≡ task v i)

abbrev pub IsWholeOf : Dag → Standing → List KeptState → Type 0
IsWholeOf g s ks =
    (v : ℕ) → v < length g.vertices → (x : VertexId × ℕ × ℕ) × In x s.configured × (x.0.0 ≡ v) × AreKeptAt v x.1 ks

pub record IsTakenUp (g : Dag) (c : ConfValues) (past : Past) (s : Standing) (ks : List KeptState) (n : ℕ) : Type 0 where
  pub version : s.version ≡ 2
  pub going : IsGoingOn g c past s ks
  pub whole : IsWholeOf g s ks
  pub few : recorded past ≤ n

abbrev pub IsFoundIn : Phase → Dag → ConfValues → Past → Standing → List KeptState → Type 0
IsFoundIn Running g c past s ks = IsGoingOn g c past s ks
IsFoundIn (CommitStarted sums n) g c past s ks = IsTakenUp g c past s ks n
IsFoundIn (Finished sums) g c past s ks = ⊤

abbrev pub IsFoundAt : Dag → ConfValues → Past → Standing → List KeptState → Type 0
IsFoundAt g c past s ks = IsFoundIn s.phase g c past s ks
