-- Journals of version 2 by computing: a commit that a second master takes up, and lists with one record wrong.
use Rattle.std.specs.Prelude.{◌≡◌, ℕ, true, false, Bool, ◌&&◌, List, [], ◌∷◌, ◌++◌, Some, refl}
use Rattle.tez_ids.specs.Same.{task, attempt}
use Rattle.tez_plan.specs.Dag.{Dag, vertex}
use Rattle.tez_plan.specs.declared.parts.VertexSpec.{VertexSpec}
use Rattle.tez_plan.specs.declared.parts.Head.TheVariants.{Each}
use Rattle.tez_events.specs.declared.JournalRecord.{JournalRecord}
use Rattle.tez_events.specs.declared.JournalRecord.TheVariants.{Submitted, Opened, Configured, TaskSucceeded, CommitStarted, Finished, Version, SinkPublished}
use Rattle.tez_standing.specs.declared.state.Phase.TheVariants as phases
use Rattle.tez_standing.specs.Standing.{may_follow, standing}

-- two vertices of one task, each a source and a sink
abbrev reads : ℕ → VertexSpec
reads name = record { name = name ∷ []; tasks = 1; source = Some (9 ∷ []); head = Each; steps = []; sink = Some (name ∷ []) }

abbrev two_sinks : Dag
two_sinks = record { name = []; vertices = reads 7 ∷ reads 8 ∷ []; edges = [] }

-- each record may come after those before it
all_follow : List JournalRecord → List JournalRecord → Bool
all_follow before [] = true
all_follow before (r ∷ rs) = may_follow two_sinks before r && all_follow (before ++ r ∷ []) rs

abbrev opens : ℕ → JournalRecord
opens n = Opened (record { 0 = n })

abbrev sums : List (ℕ × ℕ)
sums = (1, 2) ∷ (3, 4) ∷ []

-- the records of a master up to its commit, over a journal of this version
abbrev begun : List JournalRecord → List JournalRecord
begun version =
    Submitted [] ∷ version ++ opens 1 ∷ Configured (vertex 0) 1 1 ∷ Configured (vertex 1) 1 1
    ∷ TaskSucceeded (attempt 1 (task 0 0) 0) ∷ TaskSucceeded (attempt 1 (task 1 0) 0) ∷ CommitStarted sums ∷ []

abbrev second : List JournalRecord
second = begun (Version ∷ [])

abbrev first : List JournalRecord
first = begun []

-- ---- a commit that goes on in a second master

abbrev recorded : List JournalRecord
recorded = second ++ SinkPublished (vertex 0) ∷ opens 2 ∷ SinkPublished (vertex 1) ∷ []

is_legal : all_follow [] (recorded ++ Finished ∷ []) ≡ true
unfolding all_follow
is_legal = refl

stands : standing two_sinks recorded ≡ record {
  epoch = 2;
  version = 2;
  configured = (vertex 0, 1, 1) ∷ (vertex 1, 1, 1) ∷ [];
  winners = attempt 1 (task 0 0) 0 ∷ attempt 1 (task 1 0) 0 ∷ [];
  failures = [];
  phase = phases.CommitStarted sums 2;
}
stands = refl

stands_begun : (standing two_sinks second).phase ≡ phases.CommitStarted sums 0
stands_begun = refl

stands_finished : (standing two_sinks (recorded ++ Finished ∷ [])).phase ≡ phases.Finished sums
stands_finished = refl

-- ---- one record wrong

-- the first sink again, the second before the first, and one after both
sink_again : may_follow two_sinks (second ++ SinkPublished (vertex 0) ∷ []) (SinkPublished (vertex 0)) ≡ false
sink_again = refl

sink_too_early : may_follow two_sinks second (SinkPublished (vertex 1)) ≡ false
sink_too_early = refl

sink_too_many : may_follow two_sinks recorded (SinkPublished (vertex 1)) ≡ false
sink_too_many = refl

-- finished with a sink left; a sink before the commit; a version in the commit, twice, and before the job
finished_early : may_follow two_sinks (second ++ SinkPublished (vertex 0) ∷ []) Finished ≡ false
finished_early = refl

sink_before_commit : may_follow two_sinks (Submitted [] ∷ Version ∷ opens 1 ∷ []) (SinkPublished (vertex 0)) ≡ false
sink_before_commit = refl

version_late : may_follow two_sinks first Version ≡ false
version_late = refl

version_twice : may_follow two_sinks (Submitted [] ∷ Version ∷ []) Version ≡ false
version_twice = refl

version_first : may_follow two_sinks [] Version ≡ false
version_first = refl

-- a journal of version 1 takes the version while no commit has started, and after that nothing but its end
version_later : may_follow two_sinks (Submitted [] ∷ opens 1 ∷ []) Version ≡ true
version_later = refl

opened_in_first : may_follow two_sinks first (opens 2) ≡ false
opened_in_first = refl

sink_in_first : may_follow two_sinks first (SinkPublished (vertex 0)) ≡ false
sink_in_first = refl

finished_in_first : (all_follow [] (first ++ Finished ∷ []) ≡ true) × ((standing two_sinks first).version ≡ 1)
unfolding all_follow
finished_in_first = (refl, refl)

-- in the commit of version 2 no task goes on
won_in_commit : may_follow two_sinks second (TaskSucceeded (attempt 1 (task 0 0) 1)) ≡ false
won_in_commit = refl

configured_in_commit : may_follow two_sinks second (Configured (vertex 0) 1 1) ≡ false
configured_in_commit = refl
