-- What the laws say of a new master.
use Rattle.std.specs.Prelude.{◌≡◌, ◌↔◌, ◌<◌, ◌∷◌, ℕ, suc, max, List, length, true, false, IsTrue, None}
use Rattle.tez_ids.specs.declared.VertexId.{VertexId}
use Rattle.tez_ids.specs.declared.AttemptId.{AttemptId}
use Rattle.tez_ids.specs.Same.{task}
use Rattle.tez_lists.specs.Numbers.{In}
use Rattle.tez_plan.specs.Dag.{Dag}
use Rattle.tez_plan.specs.Faults.{IsValid}
use Rattle.tez_plan.specs.Ranges.{IsInRanges}
use Rattle.tez_conf.specs.declared.values.ConfValues.{ConfValues}
use Rattle.tez_events.specs.declared.StopCause.{StopCause}
use Rattle.tez_events.specs.declared.JournalRecord.{JournalRecord}
use Rattle.tez_events.specs.declared.Entry.TheVariants.{Stopped}
use Rattle.tez_standing.specs.declared.state.Phase.TheVariants.{Running, CommitStarted, Finished}
use Rattle.tez_standing.specs.declared.state.Standing.{Standing}
use Rattle.tez_standing.specs.Standing.{IsLegal, is_running, standing}
use Rattle.tez_history.specs.History.{Past, extend, epoch, is_up, recorded}
use Rattle.tez_history.specs.Rules.{is_at_start}
use Rattle.tez_history.specs.Follows.{IsMade}
use Rattle.tez_history.specs.Runs.{Run, spent_in, opened_by}
use Rattle.tez_pool_view.specs.View.{pool_view}
use Rattle.tez_master_model.specs.State.{MasterState}
use Rattle.tez_master_model.specs.Fresh.{fresh as fresh_master}
use Rattle.tez_master_model.specs.Recovery.{KeptState, found, CanBeFound}
use Rattle.tez_master_view.specs.View.{master_view}
use Rattle.tez_master_view.specs.Laws.{Goes}
use Rattle.tez_recovery.specs.Laws.{knowing_no_sink, has_committed, as_found, open_of, start_of, start_entries, begun, new_master, HaveFailed, as_ground, IsFoundAt, IsRightFor}

-- ---- it begins

-- with its first entry: nothing is configured, queued or won, and the places are as they were
abbrev pub OpensAsHistory : Dag → ConfValues → Past → Standing → Type 0
OpensAsHistory g c past s = IsTrue (is_at_start past) → s.phase ≡ Running → begun g c past s ≡ master_view g c (open_of s past ∷ past)

abbrev pub fresh_at : Dag → ConfValues → Past → Standing → MasterState
fresh_at g c past s = fresh_master g c (suc (max s.epoch (epoch past))) (pool_view c past)

-- it is fresh where no sink was recorded before
abbrev pub OpensFresh : Dag → ConfValues → Past → Standing → Type 0
OpensFresh g c past s =
    s.phase ≡ Running → recorded past ≡ 0 → begun g c past s ≡ fresh_at g c past s

-- and where a commit has started it makes of what it finds what a fresh master does, which can find it where it can
abbrev pub TakesUpFresh : Dag → ConfValues → Past → Standing → Type 0
TakesUpFresh g c past s =
    (ks : List KeptState) (sums : List (ℕ × ℕ)) (n : ℕ) → s.phase ≡ CommitStarted sums n
    → (new_master g c past s ks ≡ found (fresh_at g c past s) s ks) × (CanBeFound (begun g c past s) s ks → CanBeFound (fresh_at g c past s) s ks)

-- no sink is recorded before a commit has started
abbrev pub RecordsNone : Dag → ConfValues → Past → Type 0
RecordsNone g c past = IsMade g c past → has_committed past ≡ false → recorded past ≡ 0

-- where the job is over it is as the history says, but for what that tells of the sinks
abbrev pub IsOverAtOnce : Dag → ConfValues → Past → Type 0
IsOverAtOnce g c past =
    (s : Standing) (ks : List KeptState) (sums : List (ℕ × ℕ)) → IsTrue (is_at_start past) → s.phase ≡ Finished sums
    → found (fresh_master g c (suc (epoch past)) (pool_view c past)) s ks ≡ knowing_no_sink (master_view g c (start_of g c past s ks))

-- ---- what it finds is all taken

-- the open, and then each vertex, each count of failures and each winner, in the order of what is found
abbrev pub TakesAll : Dag → ConfValues → Past → Standing → Type 0
TakesAll g c past s = (ks : List KeptState) → IsFoundAt g c past s ks → start_of g c past s ks ≡ extend past (start_entries s past ks)

-- no task is spent exactly where the model finds none
abbrev pub IsUnspent : ConfValues → Standing → List KeptState → Type 0
IsUnspent c s ks = HaveFailed c s ↔ (spent_in c (as_ground s ks) ≡ None)

-- the run that it begins has no verdict
abbrev pub RunsOn : Dag → ConfValues → Run → Standing → Type 0
RunsOn g c r s =
    (ks : List KeptState) → IsFoundAt g c r.past s ks → opened_by g c r (as_found s ks) ≡ record { past = start_of g c r.past s ks; verdict = None }

-- ---- it goes on

-- its parts can be told each thing when its turn comes
abbrev pub CanTakeAll : Dag → ConfValues → Past → Standing → Type 0
CanTakeAll g c past s = (ks : List KeptState) → Goes g c past → IsTrue (is_at_start past) → IsFoundAt g c past s ks → CanBeFound (begun g c past s) s ks

-- then it is what the history says that begins with it
abbrev pub IsAsHistory : Dag → ConfValues → Past → Standing → Type 0
IsAsHistory g c past s =
    (ks : List KeptState) → Goes g c past → IsTrue (is_at_start past) → IsFoundAt g c past s ks → new_master g c past s ks ≡ master_view g c (start_of g c past s ks)

-- and is up
abbrev pub IsUpAtOnce : Dag → ConfValues → Past → Standing → Type 0
IsUpAtOnce g c past s = (ks : List KeptState) → IsFoundAt g c past s ks → is_up (start_of g c past s ks) ≡ true

-- a master can go by a history after a stop
abbrev pub GoesByStop : Dag → ConfValues → Past → StopCause → Type 0
GoesByStop g c past cause = Goes g c past → Goes g c (Stopped cause ∷ past)

-- and once a new master has begun
abbrev pub GoesByStart : Dag → ConfValues → Past → Standing → Type 0
GoesByStart g c past s = (ks : List KeptState) → Goes g c past → IsTrue (is_at_start past) → IsFoundAt g c past s ks → Goes g c (start_of g c past s ks)

-- ---- what a journal tells

abbrev pub IsRightByRecords : Dag → List JournalRecord → Type 0
IsRightByRecords g rs = IsValid g → IsInRanges g → IsLegal g rs → IsRightFor g (standing g rs)

-- once the commit has started, each vertex of the plan stands, and each of its tasks has a winner
abbrev pub AreWonAt : ℕ → ℕ → List AttemptId → Type 0
AreWonAt v tasks ws = (i : ℕ) → i < tasks → (a : AttemptId) × In a ws × (a.task ≡ task v i)

abbrev pub IsWholeByPhase : Dag → Standing → Type 0
IsWholeByPhase g s =
    is_running s.phase ≡ false → (v : ℕ) → v < length g.vertices
    → (x : VertexId × ℕ × ℕ) × In x s.configured × (x.0.0 ≡ v) × AreWonAt v x.1 s.winners

abbrev pub IsWholeByRecords : Dag → List JournalRecord → Type 0
IsWholeByRecords g rs = IsValid g → IsInRanges g → IsLegal g rs → IsWholeByPhase g (standing g rs)
