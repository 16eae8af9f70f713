-- The table with one record more is the table of one record more.
use Rattle.std.specs.Prelude.{◌≡◌, ◌≢◌, ℕ, ◌+◌, ◌-◌, ◌^◌, ◌<◌, ◌≤◌, ◌==◌, ◌&&◌, ◌||◌, min, Bool, true, false, if◌then◌else◌, List, [], ◌∷◌, ◌++◌, map, length, Some, None, refl}
use Rattle.std.proofs.Common.{ap, sym, ◌∙◌, arith, add-zero}
use Rattle.std.proofs.Math.Nat.{min-eq_left}
use Rattle.std.proofs.lemmas.List.Sums.{count_by-le-length}
use Rattle.tez_ids.specs.declared.VertexId.{VertexId}
use Rattle.tez_ids.specs.declared.AttemptId.{AttemptId}
use Rattle.tez_ids.specs.Same.{task, same_task}
use Rattle.tez_lists.specs.Numbers.{numbers_from}
use Rattle.tez_lists.proofs.Tables.{if_same, if_other}
use Rattle.tez_plan.specs.Dag.{Dag, tasks_of}
use Rattle.tez_events.specs.declared.JournalRecord.{JournalRecord}
use Rattle.tez_events.specs.declared.JournalRecord.TheVariants.{Submitted, Opened, Configured, TaskSucceeded, AttemptFailed, CommitStarted, Finished, Version, SinkPublished}
use Rattle.tez_standing.specs.declared.state.Setting.{Setting}
use Rattle.tez_standing.specs.Table.{VertexState, change}
use Rattle.tez_standing.specs.Standing.{fails, opens, epoch, version, setting, winner, failures, phase, is_running, is_committing, goes_on, begun, known, may_follow}
use Rattle.tez_standing.specs.Progress.{row, vertex_state, progress, with_setting, with_winner, with_failure, row_with_winner, row_with_failure, after}
use Rattle.tez_standing.proofs.TableLemmas.{change_map, tells}
use Rattle.tez_standing.proofs.RecordLemmas.{both_left, both_right, count_more, begun_more, version_stays, version_set, phase_stays, phase_kept, phase_counts, phase_commits, phase_finishes, running_before, make_row, make_vertex, made, won_more, failed_more, set_more, row_stays, rows_stay, vertex_stays, vertices_stay, epoch_stays, same_here, other_vertex, other_index}

abbrev vertices : Dag → List JournalRecord → List VertexState
vertices p rs = map (vertex_state p rs) (numbers_from 0 (length p.vertices))

-- ---- a setting

configured_vertices : (p : Dag) (rs : List JournalRecord) (w : VertexId) (tasks base : ℕ)
    → change w.0 (with_setting (record { tasks = tasks; base = base })) (vertices p rs) ≡ vertices p (rs ++ Configured w tasks base ∷ [])
configured_vertices p rs w tasks base = change_map (with_setting s) (vertex_state p rs) (vertex_state p (rs ++ r ∷ [])) (length p.vertices) w.0 at off where
  s : Setting
  s = record { tasks = tasks; base = base }

  r : JournalRecord
  r = Configured w tasks base

  at : (v : ℕ) → w.0 ≡ v → with_setting s (vertex_state p rs v) ≡ vertex_state p (rs ++ r ∷ []) v
  at v e =
      ap (make_vertex v (Some s)) (rows_stay rs r v (tasks_of p v) (λ i. refl) (λ i. refl))
      ∙ sym (ap (λ x. make_vertex v x (map (row (rs ++ r ∷ []) v) (numbers_from 0 (tasks_of p v)))) (set_more rs r v (Some s) (if_same w.0 v (Some s) None e)))

  off : (v : ℕ) → w.0 ≢ v → vertex_state p rs v ≡ vertex_state p (rs ++ r ∷ []) v
  off v e = vertex_stays p rs r v (if_other w.0 v (Some s) None e) (λ i. refl) (λ i. refl)

-- ---- a winner

if_true : {X : Type 0} (b : Bool) (x y : X) → b ≡ true → (if b then x else y) ≡ x
if_true b x y h = ap (λ c. if c then x else y) h

if_false : {X : Type 0} (b : Bool) (x y : X) → b ≡ false → (if b then x else y) ≡ y
if_false b x y h = ap (λ c. if c then x else y) h

won_vertices : (p : Dag) (rs : List JournalRecord) (a : AttemptId) → change a.task.vertex.0 (with_winner a) (vertices p rs) ≡ vertices p (rs ++ TaskSucceeded a ∷ [])
won_vertices p rs a = change_map (with_winner a) (vertex_state p rs) (vertex_state p (rs ++ r ∷ [])) (length p.vertices) a.task.vertex.0 at off where
  r : JournalRecord
  r = TaskSucceeded a

  here : (v i : ℕ) → a.task.vertex.0 ≡ v → a.task.index ≡ i → row_with_winner a (row rs v i) ≡ row (rs ++ r ∷ []) v i
  here v i e d =
      sym (ap (λ x. make_row (task v i) x (failures (rs ++ r ∷ []) (task v i))) (won_more rs r (task v i) (Some a) (if_true (same_task a.task (task v i)) (Some a) None (same_here a.task v i e d)))
      ∙ ap (make_row (task v i) (Some a)) (failed_more rs r (task v i) false refl ∙ add-zero (failures rs (task v i))))

  beside : (v i : ℕ) → a.task.index ≢ i → row rs v i ≡ row (rs ++ r ∷ []) v i
  beside v i d = row_stays rs r v i (if_false (same_task a.task (task v i)) (Some a) None (other_index a.task v i d)) refl

  at : (v : ℕ) → a.task.vertex.0 ≡ v → with_winner a (vertex_state p rs v) ≡ vertex_state p (rs ++ r ∷ []) v
  at v e =
      ap (make_vertex v (setting rs v)) (change_map (row_with_winner a) (row rs v) (row (rs ++ r ∷ []) v) (tasks_of p v) a.task.index (λ i d. here v i e d) (λ i d. beside v i d))
      ∙ sym (ap (λ x. make_vertex v x (map (row (rs ++ r ∷ []) v) (numbers_from 0 (tasks_of p v)))) (set_more rs r v None refl))

  off : (v : ℕ) → a.task.vertex.0 ≢ v → vertex_state p rs v ≡ vertex_state p (rs ++ r ∷ []) v
  off v e = vertex_stays p rs r v refl (λ i. if_false (same_task a.task (task v i)) (Some a) None (other_vertex a.task v i e)) (λ i. refl)

-- ---- a failure

counted : (n len : ℕ) → n ≤ len → len < 2 ^ 64 - 1 → min (n + 1) (2 ^ 64 - 1) ≡ n + 1
counted n len a b = min-eq_left (omega arith)

failed_vertices : (p : Dag) (rs : List JournalRecord) (a : AttemptId) → length rs < 2 ^ 64 - 1 → change a.task.vertex.0 (with_failure a) (vertices p rs) ≡ vertices p (rs ++ AttemptFailed a ∷ [])
failed_vertices p rs a few = change_map (with_failure a) (vertex_state p rs) (vertex_state p (rs ++ r ∷ [])) (length p.vertices) a.task.vertex.0 at off where
  r : JournalRecord
  r = AttemptFailed a

  here : (v i : ℕ) → a.task.vertex.0 ≡ v → a.task.index ≡ i → row_with_failure (row rs v i) ≡ row (rs ++ r ∷ []) v i
  here v i e d =
      ap (make_row (task v i) (winner rs (task v i))) (counted (failures rs (task v i)) (length rs) (count_by-le-length (fails (task v i)) rs) few)
      ∙ sym (ap (λ x. make_row (task v i) x (failures (rs ++ r ∷ []) (task v i))) (won_more rs r (task v i) None refl)
      ∙ ap (make_row (task v i) (winner rs (task v i))) (failed_more rs r (task v i) true (same_here a.task v i e d)))

  beside : (v i : ℕ) → a.task.index ≢ i → row rs v i ≡ row (rs ++ r ∷ []) v i
  beside v i d = row_stays rs r v i refl (other_index a.task v i d)

  at : (v : ℕ) → a.task.vertex.0 ≡ v → with_failure a (vertex_state p rs v) ≡ vertex_state p (rs ++ r ∷ []) v
  at v e =
      ap (make_vertex v (setting rs v)) (change_map row_with_failure (row rs v) (row (rs ++ r ∷ []) v) (tasks_of p v) a.task.index (λ i d. here v i e d) (λ i d. beside v i d))
      ∙ sym (ap (λ x. make_vertex v x (map (row (rs ++ r ∷ []) v) (numbers_from 0 (tasks_of p v)))) (set_more rs r v None refl))

  off : (v : ℕ) → a.task.vertex.0 ≢ v → vertex_state p rs v ≡ vertex_state p (rs ++ r ∷ []) v
  off v e = vertex_stays p rs r v refl (λ i. refl) (λ i. other_vertex a.task v i e)

-- ---- any record

opened_next : (b c d : Bool) → (b && (c && d)) ≡ true → d ≡ true
opened_next b c d h = both_right c d (both_right b (c && d) h)

-- running, or in a commit
opened_on : (a b c d e : Bool) → (a && ((b || (c && d)) && e)) ≡ true → (b || d) ≡ true
opened_on a b c d e h = by b (both_left (b || (c && d)) e (both_right a _ h)) where
  by : (x : Bool) → (x || (c && d)) ≡ true → (x || d) ≡ true
  by true k = refl
  by false k = both_right c d k

open_running : (a b c : Bool) → ((a && b) && c) ≡ true → b ≡ true
open_running a b c h = both_right a b (both_left (a && b) c h)

pub step : (p : Dag) (rs : List JournalRecord) (r : JournalRecord) → may_follow p rs r ≡ true → length rs < 2 ^ 64 - 1 → after (progress p rs) r ≡ progress p (rs ++ r ∷ [])
step p rs (Submitted text) h few =
    made (begun_more rs (Submitted text)) (epoch_stays rs (Submitted text) refl) (version_stays rs (Submitted text) refl) (phase_stays rs (Submitted text) refl refl (running_before rs h))
    (vertices_stay p rs (Submitted text) (λ v. refl) (λ t. refl) (λ t. refl))
step p rs (Opened e) h few =
    made (begun_more rs (Opened e)) (tells e.0 (epoch rs + 1) (opened_next (begun rs) (goes_on (known p rs)) (e.0 == epoch rs + 1) h) ∙ sym (count_more opens rs (Opened e)))
    (version_stays rs (Opened e) refl)
    (phase_kept rs (Opened e) refl refl refl (opened_on (begun rs) (is_running (phase rs)) (version rs == 2) (is_committing (phase rs)) (e.0 == epoch rs + 1) h)) (vertices_stay p rs (Opened e) (λ v. refl) (λ t. refl) (λ t. refl))
step p rs (Configured w tasks base) h few =
    made (begun_more rs (Configured w tasks base)) (epoch_stays rs (Configured w tasks base) refl) (version_stays rs (Configured w tasks base) refl)
    (phase_stays rs (Configured w tasks base) refl refl (open_running _ (is_running (phase rs)) _ h)) (configured_vertices p rs w tasks base)
step p rs (TaskSucceeded a) h few =
    made (begun_more rs (TaskSucceeded a)) (epoch_stays rs (TaskSucceeded a) refl) (version_stays rs (TaskSucceeded a) refl) (phase_stays rs (TaskSucceeded a) refl refl (open_running _ (is_running (phase rs)) _ h)) (won_vertices p rs a)
step p rs (AttemptFailed a) h few =
    made (begun_more rs (AttemptFailed a)) (epoch_stays rs (AttemptFailed a) refl) (version_stays rs (AttemptFailed a) refl) (phase_stays rs (AttemptFailed a) refl refl (open_running _ (is_running (phase rs)) _ h)) (failed_vertices p rs a few)
step p rs (CommitStarted sums) h few =
    made (begun_more rs (CommitStarted sums)) (epoch_stays rs (CommitStarted sums) refl) (version_stays rs (CommitStarted sums) refl) (phase_commits rs (CommitStarted sums) sums refl refl refl)
    (vertices_stay p rs (CommitStarted sums) (λ v. refl) (λ t. refl) (λ t. refl))
step p rs Finished h few =
    made (begun_more rs Finished) (epoch_stays rs Finished refl) (version_stays rs Finished refl) (phase_finishes rs Finished refl refl) (vertices_stay p rs Finished (λ v. refl) (λ t. refl) (λ t. refl))
step p rs Version h few =
    made (begun_more rs Version) (epoch_stays rs Version refl) (version_set rs Version refl) (phase_stays rs Version refl refl (opened_next (begun rs) (version rs == 1) (is_running (phase rs)) h))
    (vertices_stay p rs Version (λ v. refl) (λ t. refl) (λ t. refl))
step p rs (SinkPublished w) h few =
    made (begun_more rs (SinkPublished w)) (epoch_stays rs (SinkPublished w) refl) (version_stays rs (SinkPublished w) refl)
    (phase_counts p rs (SinkPublished w) (λ v. v == w.0) refl refl refl (both_right (version rs == 2) _ h)) (vertices_stay p rs (SinkPublished w) (λ v. refl) (λ t. refl) (λ t. refl))
