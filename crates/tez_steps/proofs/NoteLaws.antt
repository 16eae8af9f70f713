-- What is noted of the sinks, as a part of what holds.
--     with_notes, noted_holds, holds_noted      the parts with these notes
--     winners_told, ready_noted                 a sink is readied
--     start_noted                               the commit starts
--     purge_told                                a success tells what is noted
use Rattle.std.specs.Prelude.{◌≡◌, ◌<◌, ℕ, true, length, map, slice_set, slice_index_or}
use Rattle.std.specs.List.{filter_map}
use Rattle.std.proofs.Common.{sym, ◌∙◌, ap, subst}
use Rattle.tez_ids.specs.declared.VertexId.{VertexId}
use Rattle.tez_ids.specs.Same.{task}
use Rattle.tez_conf.specs.declared.values.ConfValues.{ConfValues}
use Rattle.tez_events.specs.declared.CoreEvent.TheVariants.{Ready, CommitStart, Purge}
use Rattle.tez_meaning.specs.Jobs.{Job}
use Rattle.tez_meaning.specs.Value.{sums}
use Rattle.tez_history.specs.Shape.{sinks, numbers_below}
use Rattle.tez_history.specs.History.{Past, extend}
use Rattle.tez_history.specs.Derived.{task_count, winners_of}
use Rattle.tez_history.specs.Steps.{entries_of}
use Rattle.tez_master_model.specs.Enabled.{enabled_in}
use Rattle.tez_master_model.specs.Read.{winner_in}
use Rattle.tez_world_invariant.specs.Keeping.{Parts, Holds as HoldsNoted, most_entries, sum_of}
use Rattle.tez_steps.specs.Step.{Notes, AreNoted}
use Rattle.tez_steps.specs.Holds.{Holds, with_right_notes}
use Rattle.tez_steps.specs.Committing.{winners_in}
use Rattle.tez_world_invariant.proofs.EndsCommit.{ready_holds, start_holds, purged_succeeds, tasks_told, collected}

abbrev pub with_notes : Parts → Notes → Parts
with_notes ps notes = record { master = ps.master; seats = ps.seats; shelves = ps.shelves; texts = notes.texts; sums = notes.sums }

pub noted_holds : (job : Job) (c : ConfValues) (ps : Parts) (past : Past) (notes : Notes) → Holds job c ps past → AreNoted job past notes → HoldsNoted job c (with_notes ps notes) past
noted_holds job c ps past notes h n = record {
  goes = h.goes;
  well = h.well;
  up = h.up;
  none_kept = h.none_kept;
  none_over = h.none_over;
  none_stopped = h.none_stopped;
  short = h.short;
  master = h.master;
  seats = h.seats;
  shelves = h.shelves;
  good = h.good;
  texts = n.texts;
  rows = n.rows h.up;
  sums = n.sums;
}

pub holds_noted : (job : Job) (c : ConfValues) (ps : Parts) (past : Past) → HoldsNoted job c ps past → AreNoted job past (record { texts = ps.texts; sums = ps.sums })
holds_noted job c ps past h = record { rows = λ up. h.rows; texts = h.texts; sums = h.sums }

-- the winners that are merged are those of the history
pub winners_told : (job : Job) (c : ConfValues) (ps : Parts) (past : Past) (v : VertexId) → Holds job c ps past → enabled_in ps.master (Ready v) ≡ true → winners_in ps.master v.0 ≡ winners_of v.0 (task_count job.plan v.0 past) past
winners_told job c ps past v h on =
    ap (λ (n : ℕ × ℕ). filter_map (λ i. winner_in ps.master (task v.0 i)) (numbers_below n.1)) (tasks_told job c (with_right_notes job ps) past v h on)
    ∙ collected job c (with_right_notes job ps) past v.0 (task_count job.plan v.0 past) h

pub ready_noted : (job : Job) (c : ConfValues) (ps : Parts) (past : Past) (v : VertexId) (notes : Notes) (sum : ℕ × ℕ) → Holds job c ps past → enabled_in ps.master (Ready v) ≡ true → length (extend past (entries_of job.plan c past (Ready v))) < most_entries
    → AreNoted job past notes → sum ≡ sum_of job v.0 → AreNoted job (extend past (entries_of job.plan c past (Ready v))) (record { texts = slice_set notes.texts v.0 sum; sums = notes.sums })
ready_noted job c ps past v notes sum h on short n is =
    subst (λ (x : ℕ × ℕ). AreNoted job (extend past (entries_of job.plan c past (Ready v))) (record { texts = slice_set notes.texts v.0 x; sums = notes.sums })) (sym is)
    (holds_noted job c _ (extend past (entries_of job.plan c past (Ready v))) (ready_holds job c (with_notes ps notes) past v (noted_holds job c ps past notes h n) on short))

pub start_noted : (job : Job) (c : ConfValues) (ps : Parts) (past : Past) (notes : Notes) → Holds job c ps past → enabled_in ps.master CommitStart ≡ true → length (extend past (entries_of job.plan c past CommitStart)) < most_entries
    → AreNoted job past notes → AreNoted job (extend past (entries_of job.plan c past CommitStart)) (record { texts = notes.texts; sums = map (λ v. slice_index_or notes.texts v (0, 0)) (sinks job.plan) })
start_noted job c ps past notes h on short n = holds_noted job c _ (extend past (entries_of job.plan c past CommitStart)) (start_holds job c (with_notes ps notes) past (noted_holds job c ps past notes h n) on short)

pub purge_told : (job : Job) (c : ConfValues) (ps : Parts) (past : Past) (notes : Notes) → Holds job c ps past → enabled_in ps.master Purge ≡ true → AreNoted job past notes → notes.sums ≡ sums job
purge_told job c ps past notes h on n = (purged_succeeds job c (with_notes ps notes) past (noted_holds job c ps past notes h n) on).sums
