-- The commit of the sinks and the purge, on the parts of a master.
--     ready_holds, start_holds        what holds once a sink is readied, and once the commit starts
--     collected                       the winners that a master finds for a vertex
--     sums_noted                      what is noted of the sinks are the sums of the job
--     purged_succeeds                 the purge tells that the job succeeded
use Rattle.std.specs.Prelude.{◌≡◌, ℕ, suc, zero, ◌<◌, ◌==◌, ◌||◌, not, Bool, true, false, if◌then◌else◌, List, [], ◌∷◌, map, length, slice_get, slice_set, slice_index_or, Some, is_some, refl}
use Rattle.std.specs.List.{list_all, filter_map}
use Rattle.std.proofs.Common.{inl, inr, ap, sym, ◌∙◌, arith, subst}
use Rattle.std.proofs.lemmas.Bool.{eqb-true, eq-eqb}
use Rattle.std.proofs.lemmas.List.{length-set}
use Rattle.std.proofs.lemmas.Option.{get_or_from_slice_get}
use Rattle.tez_ids.specs.declared.VertexId.{VertexId}
use Rattle.tez_ids.specs.Same.{task}
use Rattle.tez_lists.specs.Numbers.{In, numbers_from}
use Rattle.tez_conf.specs.declared.values.ConfValues.{ConfValues}
use Rattle.tez_meaning.specs.Jobs.{Job}
use Rattle.tez_meaning.specs.Value.{sums}
use Rattle.tez_events.specs.declared.Entry.TheVariants.{Opened, Over, Stopped, Committing, Ready as Readied, CommitStarted, Finished}
use Rattle.tez_events.specs.declared.CoreEvent.TheVariants.{Ready, CommitStart, Publish, Purge}
use Rattle.tez_history.specs.Shape.{vertices, sinks, has_sink}
use Rattle.tez_history.specs.History.{Past, extend, winner, is_up, is_readied, is_committing, is_finished}
use Rattle.tez_history.specs.Derived.{is_configured, task_count, winners_of, all_done, is_vertex_done}
use Rattle.tez_history.specs.Steps.{enabled, entries_of, is_running}
use Rattle.tez_history.specs.Follows.{IsMade}
use Rattle.tez_laws.proofs.StepLaw.{both}
use Rattle.tez_laws.proofs.Counting.{ready_sink}
use Rattle.tez_progress.proofs.Members.{clash, in_numbers, all_at, found_each}
use Rattle.tez_contents.specs.Laws.{HasNone}
use Rattle.tez_schedule.specs.Table.{progress_at}
use Rattle.tez_schedule_view.proofs.Answering.{progress_same}
use Rattle.tez_master_model.specs.Enabled.{enabled_in}
use Rattle.tez_master_model.specs.Read.{winner_in}
use Rattle.tez_master_model.specs.Settled.{settled}
use Rattle.tez_master_view.proofs.EachEvent.{event_settles}
use Rattle.tez_master_view.proofs.Lasting.{goes_event}
use Rattle.tez_master_view.proofs.TaskReadings.{winner_read}
use Rattle.tez_work_view.proofs.Seating.{seats_left}
use Rattle.tez_work_view.proofs.Shelving.{shelf_left}
use Rattle.tez_sinks.specs.Sinks.{sink_of, sink_name, is_over}
use Rattle.tez_sinks.proofs.Bads.{good_defined}
use Rattle.tez_sinks.proofs.Commits.{ready_named, publish_named}
use Rattle.tez_sinks.proofs.Names.{listed_sink, sums_are}
use Rattle.tez_sinks.proofs.Publications.{finished_published}
use Rattle.tez_sinks.proofs.Stores.{event_good}
use Rattle.tez_sinks.proofs.Wells.{well_event}
use Rattle.tez_world_invariant.specs.Keeping.{Parts, Holds, TextsAreRight, sum_of, is_stop, most_entries}
use Rattle.tez_world_invariant.specs.Store.{IsSuccess}
use Rattle.tez_world_invariant.specs.Commit.{noted, noted_sums}
use Rattle.tez_world_invariant.proofs.EndsMaster.{is_enabled, takes_up_none}

-- ---- a sink is readied

set_here : {X : Type 0} (xs : List X) (i : ℕ) (x : X) → i < length xs → slice_get (slice_set xs i x) i ≡ Some x
set_here [] i x h = absurd (omega arith)
set_here (y ∷ xs) zero x h = refl
set_here (y ∷ xs) (suc i) x h = set_here xs i x (omega (arith, h))

set_there : {X : Type 0} (xs : List X) (i j : ℕ) (x : X) → (i ≡ j → ⊥) → slice_get (slice_set xs i x) j ≡ slice_get xs j
set_there [] i j x h = refl
set_there (y ∷ xs) zero zero x h = absurd (h refl)
set_there (y ∷ xs) zero (suc j) x h = refl
set_there (y ∷ xs) (suc i) zero x h = refl
set_there (y ∷ xs) (suc i) (suc j) x h = set_there xs i j x (λ e. h (ap suc e))

noted_right : (job : Job) (ps : Parts) (past : Past) (v : VertexId) → v.0 < length ps.texts → TextsAreRight job past ps.texts → TextsAreRight job (Readied v ∷ past) (noted job ps v)
noted_right job ps past v inside right u sink h = by (v.0 == u) refl h where
  by : (b : Bool) → (v.0 == u) ≡ b → (b || is_readied u past) ≡ true → slice_get (noted job ps v) u ≡ Some (sum_of job u)
  by true e k = subst (λ w. slice_get (noted job ps v) w ≡ Some (sum_of job w)) (eqb-true v.0 u e) (set_here ps.texts v.0 (sum_of job v.0) inside)
  by false e k = set_there ps.texts v.0 u (sum_of job v.0) (λ same. clash (eq-eqb v.0 u same) e) ∙ right u sink k

-- a sink that is to be readied is a vertex
ready_inside : (job : Job) (c : ConfValues) (past : Past) (v : VertexId) → enabled job.plan c past (Ready v) ≡ true → v.0 < length job.plan.vertices
ready_inside job c past v on =
    (listed_sink job.plan v.0 (ready_sink job.plan past v.0 (both {x = all_done job.plan past} (both {x = is_running past} on).1).1)).0

pub ready_holds : (job : Job) (c : ConfValues) (ps : Parts) (past : Past) (v : VertexId) → Holds job c ps past → enabled_in ps.master (Ready v) ≡ true → length (extend past (entries_of job.plan c past (Ready v))) < most_entries
    → Holds job c (record ps { master = settled ps.master (Ready v); texts = noted job ps v }) (extend past (entries_of job.plan c past (Ready v)))
ready_holds job c ps past v h on short =
    let may = is_enabled job c ps past (Ready v) h tt on in
    let inside : v.0 < length ps.texts = rw h.rows (ready_inside job c past v may) in
    record {
      goes = goes_event job.plan c past (Ready v) h.goes may tt;
      well = well_event job c past (Ready v) h.well may;
      up = h.up;
      none_kept = (refl, h.none_kept);
      none_over = (refl, h.none_over);
      none_stopped = (refl, h.none_stopped);
      short = short;
      master = ap (λ m. settled m (Ready v)) h.master ∙ event_settles job.plan c past (Ready v) h.goes may tt;
      seats = h.seats ∙ sym (seats_left job c past (Ready v) tt h.well.made may);
      shelves = λ b. h.shelves b ∙ sym (shelf_left job c past (Ready v) b tt h.well.made may);
      good = event_good job c past (Ready v) h.well.made may h.good;
      texts = noted_right job ps past v inside h.texts;
      rows = length-set ps.texts v.0 (sum_of job v.0) ∙ h.rows;
      sums = h.sums;
    }

-- ---- the winners of a vertex, as a master finds them

same_found : (job : Job) (c : ConfValues) (ps : Parts) (past : Past) (v : ℕ) (first n : ℕ) → Holds job c ps past
    → filter_map (λ i. winner_in ps.master (task v i)) (numbers_from first n) ≡ filter_map (λ i. winner (task v i) past) (numbers_from first n)
same_found job c ps past v first zero h = refl
same_found job c ps past v first (suc n) h =
    let one : winner_in ps.master (task v first) ≡ winner (task v first) past = ap (λ m. winner_in m (task v first)) h.master ∙ winner_read job.plan c past (task v first) h.goes.sound.made in
    rw (one, same_found job c ps past v (suc first) n h) refl

pub collected : (job : Job) (c : ConfValues) (ps : Parts) (past : Past) (v n : ℕ) → Holds job c ps past
    → filter_map (λ i. winner_in ps.master (task v i)) (numbers_from 0 n) ≡ winners_of v n past
collected job c ps past v n h = same_found job c ps past v 0 n h

-- once a sink is to be readied its vertex is configured and each of its tasks has a winner
vertex_won : (job : Job) (c : ConfValues) (past : Past) (v : VertexId) → enabled job.plan c past (Ready v) ≡ true
    → (is_configured v.0 past ≡ true) × (length (winners_of v.0 (task_count job.plan v.0 past) past) ≡ task_count job.plan v.0 past)
vertex_won job c past v may =
    let done = (both {x = all_done job.plan past} (both {x = is_running past} may).1).0 in
    let one = all_at (λ u. is_vertex_done job.plan u past) v.0 (vertices job.plan) done (in_numbers 0 (length job.plan.vertices) v.0 (omega arith) (let inside = ready_inside job c past v may in omega (arith, inside))) in
    let k = both {x = is_configured v.0 past} one in
    (k.0, eqb-true (length (winners_of v.0 (task_count job.plan v.0 past) past)) (task_count job.plan v.0 past) k.1)

pub each_won : (job : Job) (c : ConfValues) (ps : Parts) (past : Past) (v : VertexId) (i : ℕ) → Holds job c ps past → enabled_in ps.master (Ready v) ≡ true → i < task_count job.plan v.0 past
    → is_some (winner_in ps.master (task v.0 i)) ≡ true
each_won job c ps past v i h on inside =
    let full = (vertex_won job c past v (is_enabled job c ps past (Ready v) h tt on)).1 in
    let there = found_each (λ j. winner (task v.0 j) past) 0 (task_count job.plan v.0 past) i full (omega arith) (omega (arith, inside)) in
    ap (λ m. is_some (winner_in m (task v.0 i))) h.master ∙ ap is_some (winner_read job.plan c past (task v.0 i) h.goes.sound.made) ∙ there

pub tasks_told : (job : Job) (c : ConfValues) (ps : Parts) (past : Past) (v : VertexId) → Holds job c ps past → enabled_in ps.master (Ready v) ≡ true
    → progress_at ps.master.schedule v.0 ≡ (task_count job.plan v.0 past, task_count job.plan v.0 past)
tasks_told job c ps past v h on =
    let k = vertex_won job c past v (is_enabled job c ps past (Ready v) h tt on) in
    let n = task_count job.plan v.0 past in
    ap (λ m. progress_at m.schedule v.0) h.master ∙ progress_same job.plan c past h.goes.sound.made h.goes.plan v.0
    ∙ ap (λ b. if b then (length (winners_of v.0 n past), n) else (0, 0)) k.0 ∙ ap (λ x. (x, n)) k.1

-- ---- the commit starts

all_noted : (job : Job) (ps : Parts) (past : Past) → TextsAreRight job past ps.texts → (vs : List ℕ) → ((v : ℕ) → In v vs → has_sink job.plan v ≡ true) → list_all (λ v. is_readied v past) vs ≡ true
    → map (λ v. slice_index_or ps.texts v (0, 0)) vs ≡ map (sum_of job) vs
all_noted job ps past right [] sink h = refl
all_noted job ps past right (v ∷ vs) sink h =
    let k = both {x = is_readied v past} h in
    let here : slice_index_or ps.texts v (0, 0) ≡ sum_of job v = get_or_from_slice_get ps.texts v (sum_of job v) (0, 0) (right v (sink v (inl refl)) k.0) in
    rw (here, all_noted job ps past right vs (λ w m. sink w (inr m)) k.1) refl

pub sums_noted : (job : Job) (c : ConfValues) (ps : Parts) (past : Past) → Holds job c ps past → enabled_in ps.master CommitStart ≡ true → noted_sums job ps ≡ sums job
sums_noted job c ps past h on =
    let may = is_enabled job c ps past CommitStart h tt on in
    let k = (both {x = not (is_committing past)} (both {x = is_running past} may).1).1 in
    all_noted job ps past h.texts (sinks job.plan) (λ v m. (listed_sink job.plan v m).1) k ∙ sums_are job

pub start_holds : (job : Job) (c : ConfValues) (ps : Parts) (past : Past) → Holds job c ps past → enabled_in ps.master CommitStart ≡ true → length (extend past (entries_of job.plan c past CommitStart)) < most_entries
    → Holds job c (record ps { master = settled ps.master CommitStart; sums = noted_sums job ps }) (extend past (entries_of job.plan c past CommitStart))
start_holds job c ps past h on short =
    let may = is_enabled job c ps past CommitStart h tt on in
    record {
      goes = goes_event job.plan c past CommitStart h.goes may tt;
      well = well_event job c past CommitStart h.well may;
      up = h.up;
      none_kept = (refl, h.none_kept);
      none_over = (refl, h.none_over);
      none_stopped = (refl, h.none_stopped);
      short = short;
      master = ap (λ m. settled m CommitStart) h.master ∙ event_settles job.plan c past CommitStart h.goes may tt;
      seats = h.seats ∙ sym (seats_left job c past CommitStart tt h.well.made may);
      shelves = λ b. h.shelves b ∙ sym (shelf_left job c past CommitStart b tt h.well.made may);
      good = event_good job c past CommitStart h.well.made may h.good;
      texts = h.texts;
      rows = h.rows;
      sums = λ k. sums_noted job c ps past h on;
    }

-- ---- the names of sinks

pub ready_name : (job : Job) (c : ConfValues) (ps : Parts) (past : Past) (v : VertexId) → Holds job c ps past → enabled_in ps.master (Ready v) ≡ true → sink_of job.plan v.0 ≡ Some (sink_name job.plan v.0)
ready_name job c ps past v h on = ready_named job c past v (is_enabled job c ps past (Ready v) h tt on)

pub publish_name : (job : Job) (c : ConfValues) (ps : Parts) (past : Past) (v : VertexId) → Holds job c ps past → enabled_in ps.master (Publish v) ≡ true → sink_of job.plan v.0 ≡ Some (sink_name job.plan v.0)
publish_name job c ps past v h on = publish_named job c past v (is_enabled job c ps past (Publish v) h tt on)

-- ---- the end

-- the commit had started, and no stop came since
pub finished_committing : (job : Job) (c : ConfValues) (past : Past) → IsMade job.plan c past → HasNone is_over past → HasNone is_stop past → is_finished past ≡ true → is_committing past ≡ true
finished_committing job c [] m over stop h = cc
finished_committing job c (Finished ∷ past) m over stop h = m.0.0
finished_committing job c (Over ∷ past) m over stop h = let no = over.0 in cc
finished_committing job c (Opened e ∷ past) m over stop h = cc
finished_committing job c (Stopped cause ∷ past) m over stop h = let no = stop.0 in cc
finished_committing job c (CommitStarted ∷ past) m over stop h = refl
finished_committing job c (Committing n ∷ past) m over stop h = refl
finished_committing job c (_ ∷ past) m over stop h = finished_committing job c past m.1 over.1 stop.1 h

pub purged_succeeds : (job : Job) (c : ConfValues) (ps : Parts) (past : Past) → Holds job c ps past → enabled_in ps.master Purge ≡ true → IsSuccess job ps.sums (extend past (entries_of job.plan c past Purge))
purged_succeeds job c ps past h on =
    let may = is_enabled job c ps past Purge h tt on in
    let end = (both {x = is_up past} may).1 in
    let committing = finished_committing job c past h.well.made h.none_over h.none_stopped end in
    let w = h.well in
    record {
      defined = good_defined job c past w.ranges w.valid w.made w.allowed w.now w.kept h.none_kept h.good (w.whole.committing h.up committing);
      whole = finished_published job c past w.made h.none_over (takes_up_none job c ps past h) end;
      sums = h.sums committing;
    }
