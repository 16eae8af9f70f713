-- What the store of the outputs holds after each step of a master, and what was published.
--     store_event, store_report, store_ready, store_publish, store_purge     each step
--     tasks_stored         at the purge each task of a vertex with a sink was staged
--     has_published        what is published is a first part of the sinks
--     unpublished          nothing is, before the commit starts
use Rattle.std.specs.Prelude.{◌≡◌, ℕ, Bool, true, false, List, [], ◌∷◌, ◌++◌, Some, None, refl}
use Rattle.std.proofs.Common.{ap, ◌∙◌}
use Rattle.std.proofs.lemmas.List.{append-nil}
use Rattle.tez_ids.specs.declared.AttemptId.{AttemptId}
use Rattle.tez_ids.specs.declared.VertexId.{VertexId}
use Rattle.tez_ports.specs.Content.{Named, Store, bytes_of, staged_at, stages, publishes, purges}
use Rattle.tez_commit.specs.Merge.{AreStaged, merged, prepares}
use Rattle.tez_lists.specs.Numbers.{In}
use Rattle.tez_record.specs.Bag.{text}
use Rattle.tez_conf.specs.declared.values.ConfValues.{ConfValues}
use Rattle.tez_meaning.specs.Jobs.{Job}
use Rattle.tez_meaning.specs.Value.{value, sink_text}
use Rattle.tez_events.specs.declared.Entry.TheVariants.{Opened, Stopped, Committing, Published, CommitStarted}
use Rattle.tez_events.specs.declared.CoreEvent.{CoreEvent}
use Rattle.tez_events.specs.declared.CoreEvent.TheVariants.{Ready, Publish, Purge}
use Rattle.tez_history.specs.History.{Past, Stage, Unknown, InQueue, Waits, Runs, Ended, extend, stage, holder, is_up, is_committing, recorded}
use Rattle.tez_history.specs.Derived.{is_processing, task_count, winners_of, all_done}
use Rattle.tez_history.specs.Steps.{entries_of, done_entries}
use Rattle.tez_history.specs.Follows.{IsMade}
use Rattle.tez_laws.specs.Laws.{place_in}
use Rattle.tez_laws.proofs.Places.{stands}
use Rattle.tez_laws.proofs.StepLaw.{both, made-extend, event_may}
use Rattle.tez_progress.proofs.Members.{clash}
use Rattle.tez_pool_view.proofs.Committing.{none_holds}
use Rattle.tez_contents.specs.Contents.{made}
use Rattle.tez_contents.specs.Laws.{HasNone}
use Rattle.tez_master_model.specs.Enabled.{enabled_in}
use Rattle.tez_master_model.specs.Read.{processes}
use Rattle.tez_sinks.specs.Sinks.{sink_of, sink_name, published_view, is_taken_up, StoreIsRight, TasksWereStaged, HasNoSink, IsOfNoSink}
use Rattle.tez_sinks.proofs.Called.{tasks_staged}
use Rattle.tez_sinks.proofs.Publications.{counted}
use Rattle.tez_sinks.proofs.Quiet.{quiet_step, quiet_store}
use Rattle.tez_sinks.proofs.Stores.{staged_store, reported_staged, reported_plain, purged_store}
use Rattle.tez_sinks.proofs.Commits.{ready_staged, ready_merged, ready_right, ready_harmless, publish_found, publish_right}
use Rattle.tez_world_invariant.specs.Keeping.{Parts, Holds, is_stop}
use Rattle.tez_world_invariant.specs.Store.{HasPublished, WasClear, StoreStands}
use Rattle.tez_world_invariant.proofs.EndsCommit.{finished_committing}
use Rattle.tez_world_invariant.proofs.EndsMaster.{is_enabled, runs_now, takes_up_none, no_sink_masters}

-- ---- a store that was clear

clear_now : (job : Job) (before : Named) (past : Past) → is_up past ≡ true → WasClear job before past → HasNoSink job before
clear_now job before [] up h = cc
clear_now job before (e ∷ past) up h = h

pub clear_then : (job : Job) (before : Named) (past : Past) → HasNoSink job before → WasClear job before past
clear_then job before [] h = tt
clear_then job before (e ∷ past) h = h

stands_next : (job : Job) (before : Named) (past later : Past) (s t : Store) → is_up past ≡ true → StoreStands job before past s → StoreIsRight job later before t → StoreStands job before later t
stands_next job before past later s t up h r = record { right = r; clear = clear_then job before later (clear_now job before past up h.clear) }

-- ---- each step

pub store_event : (job : Job) (c : ConfValues) (ps : Parts) (past : Past) (e : CoreEvent) (before : Named) (s : Store) → Holds job c ps past → enabled_in ps.master e ≡ true → IsOfNoSink e → StoreStands job before past s
    → StoreStands job before (extend past (entries_of job.plan c past e)) s
store_event job c ps past e before s h on none k =
    let may = is_enabled job c ps past e h (no_sink_masters e none) on in
    let later = extend past (entries_of job.plan c past e) in
    stands_next job before past later s s h.up k (quiet_store job past later before s (quiet_step job c past e h.well.made may none) k.right)

pub store_staging : (job : Job) (c : ConfValues) (ps : Parts) (past : Past) (a : AttemptId) (bytes : List ℕ) (before : Named) (s : Store) → Holds job c ps past → processes ps.master a ≡ true → StoreStands job before past s
    → StoreStands job before past (stages a bytes s)
store_staging job c ps past a bytes before s h on k =
    let runs = runs_now job c ps past a h on in
    record { right = staged_store job c past before s a bytes h.well.made runs k.right; clear = k.clear }

pub store_report : (job : Job) (c : ConfValues) (ps : Parts) (past : Past) (a : AttemptId) (bytes : List (ℕ × ℕ)) (before : Named) (s : Store) → Holds job c ps past → processes ps.master a ≡ true → StoreStands job before past s
    → StoreStands job before (extend past (done_entries a bytes)) (stages a (text (made job a past)) s)
store_report job c ps past a bytes before s h on k =
    let runs = runs_now job c ps past a h on in
    stands_next job before past (extend past (done_entries a bytes)) s (stages a (text (made job a past)) s) h.up k (reported_staged job c past a bytes h.well.made runs before s k.right)

pub store_no_sink : (job : Job) (c : ConfValues) (ps : Parts) (past : Past) (a : AttemptId) (bytes : List (ℕ × ℕ)) (before : Named) (s : Store) → Holds job c ps past → processes ps.master a ≡ true
    → sink_of job.plan a.task.vertex.0 ≡ None → StoreStands job before past s → StoreStands job before (extend past (done_entries a bytes)) s
store_no_sink job c ps past a bytes before s h on none k =
    let runs = runs_now job c ps past a h on in
    stands_next job before past (extend past (done_entries a bytes)) s s h.up k (reported_plain job c past a bytes h.well.made runs before s (λ name s. cc) (λ name s. cc) k.right)

pub store_was_staged : (job : Job) (c : ConfValues) (ps : Parts) (past : Past) (a : AttemptId) (bytes : List (ℕ × ℕ)) (before : Named) (s : Store) → Holds job c ps past → processes ps.master a ≡ true
    → staged_at a s.staged ≡ Some (text (made job a past)) → In (a, text (made job a past)) s.stage_calls → StoreStands job before past s → StoreStands job before (extend past (done_entries a bytes)) s
store_was_staged job c ps past a bytes before s h on there called k =
    let runs = runs_now job c ps past a h on in
    stands_next job before past (extend past (done_entries a bytes)) s s h.up k (reported_plain job c past a bytes h.well.made runs before s (λ name n. there) (λ name n. called) k.right)

pub winners_staged : (job : Job) (c : ConfValues) (ps : Parts) (past : Past) (v : VertexId) (before : Named) (s : Store) → Holds job c ps past → enabled_in ps.master (Ready v) ≡ true → StoreStands job before past s
    → AreStaged s.staged (winners_of v.0 (task_count job.plan v.0 past) past)
winners_staged job c ps past v before s h on k = ready_staged job c past v before s h.well (is_enabled job c ps past (Ready v) h tt on) k.right

pub winners_merged : (job : Job) (c : ConfValues) (ps : Parts) (past : Past) (v : VertexId) (before : Named) (s : Store) → Holds job c ps past → enabled_in ps.master (Ready v) ≡ true → StoreStands job before past s
    → merged s.staged (winners_of v.0 (task_count job.plan v.0 past) past) ≡ value job v.0
winners_merged job c ps past v before s h on k = ready_merged job c past v before s h.well (is_enabled job c ps past (Ready v) h tt on) k.right

pub text_found : (job : Job) (c : ConfValues) (ps : Parts) (past : Past) (v : VertexId) (before : Named) (s : Store) → Holds job c ps past → enabled_in ps.master (Publish v) ≡ true → StoreStands job before past s
    → bytes_of (sink_name job.plan v.0) s.readied ≡ Some (sink_text job v.0)
text_found job c ps past v before s h on k = publish_found job c past v before s h.well (is_enabled job c ps past (Publish v) h tt on) k.right

pub store_ready : (job : Job) (c : ConfValues) (ps : Parts) (past : Past) (v : VertexId) (before : Named) (s : Store) → Holds job c ps past → enabled_in ps.master (Ready v) ≡ true → StoreStands job before past s
    → StoreStands job before (extend past (entries_of job.plan c past (Ready v))) (prepares (winners_of v.0 (task_count job.plan v.0 past) past) (sink_name job.plan v.0) s)
store_ready job c ps past v before s h on k =
    let may = is_enabled job c ps past (Ready v) h tt on in
    stands_next job before past (extend past (entries_of job.plan c past (Ready v))) s (prepares (winners_of v.0 (task_count job.plan v.0 past) past) (sink_name job.plan v.0) s) h.up k (ready_right job c past v before s h.well may k.right)

pub store_prepared : (job : Job) (c : ConfValues) (ps : Parts) (past : Past) (v : VertexId) (before : Named) (s : Store) → Holds job c ps past → enabled_in ps.master (Ready v) ≡ true → StoreStands job before past s
    → StoreStands job before past (prepares (winners_of v.0 (task_count job.plan v.0 past) past) (sink_name job.plan v.0) s)
store_prepared job c ps past v before s h on k =
    record { right = ready_harmless job c past v before s h.well (is_enabled job c ps past (Ready v) h tt on) k.right; clear = k.clear }

pub store_publish : (job : Job) (c : ConfValues) (ps : Parts) (past : Past) (v : VertexId) (before : Named) (s : Store) → Holds job c ps past → enabled_in ps.master (Publish v) ≡ true → StoreStands job before past s
    → StoreStands job before (extend past (entries_of job.plan c past (Publish v))) (publishes (sink_name job.plan v.0) s)
store_publish job c ps past v before s h on k =
    let may = is_enabled job c ps past (Publish v) h tt on in
    stands_next job before past (extend past (entries_of job.plan c past (Publish v))) s (publishes (sink_name job.plan v.0) s) h.up k (publish_right job c past v before s h.well may k.right)

pub store_purge : (job : Job) (c : ConfValues) (ps : Parts) (past : Past) (before : Named) (s : Store) → Holds job c ps past → StoreStands job before past s
    → StoreStands job before (extend past (entries_of job.plan c past Purge)) (purges s)
store_purge job c ps past before s h k = stands_next job before past (extend past (entries_of job.plan c past Purge)) s (purges s) h.up k (purged_store job past before s k.right)

-- ---- what was published

has_published : (job : Job) (c : ConfValues) (past : Past) (before : Named) (s : Store) → IsMade job.plan c past → HasNone is_taken_up past → StoreIsRight job past before s → HasPublished job before s
has_published job c past before s m none r = (recorded past, r.publications ∙ ap (λ xs. before ++ xs) (counted job c past m none))

pub store_published : (job : Job) (c : ConfValues) (ps : Parts) (past : Past) (before : Named) (s : Store) → Holds job c ps past → StoreStands job before past s → HasPublished job before s
store_published job c ps past before s h k = has_published job c past before s h.well.made (takes_up_none job c ps past h) k.right

-- the publication took effect, and its entry did not come
pub store_tried : (job : Job) (c : ConfValues) (ps : Parts) (past : Past) (v : VertexId) (before : Named) (s : Store) → Holds job c ps past → enabled_in ps.master (Publish v) ≡ true → StoreStands job before past s
    → HasPublished job before (publishes (sink_name job.plan v.0) s)
store_tried job c ps past v before s h on k =
    let may = is_enabled job c ps past (Publish v) h tt on in
    has_published job c (Published v ∷ past) before (publishes (sink_name job.plan v.0) s) (made-extend job.plan c past (entries_of job.plan c past (Publish v)) h.well.made (event_may job.plan c past (Publish v) h.well.made may)) (refl, takes_up_none job c ps past h) (publish_right job c past v before s h.well may k.right)

pub unpublished : (job : Job) (c : ConfValues) (past : Past) → IsMade job.plan c past → HasNone is_stop past → is_committing past ≡ false → published_view job past ≡ []
unpublished job c [] m none h = refl
unpublished job c (Published v ∷ past) m none h = clash (both {x = is_committing past} m.0).0 h
unpublished job c (CommitStarted ∷ past) m none h = cc
unpublished job c (Committing n ∷ past) m none h = cc
unpublished job c (Stopped cause ∷ past) m none h = cc
unpublished job c (Opened e ∷ []) m none h = refl
unpublished job c (Opened e ∷ Stopped cause ∷ past) m none h = let no = none.1.0 in cc
unpublished job c (Opened e ∷ d ∷ past) m none h = let no = m.0.0 in cc
unpublished job c (_ ∷ past) m none h = unpublished job c past m.1 none.1 h

pub store_before_commit : (job : Job) (c : ConfValues) (ps : Parts) (past : Past) (before : Named) (s : Store) → Holds job c ps past → is_committing past ≡ false → StoreStands job before past s → s.publications ≡ before
store_before_commit job c ps past before s h off k =
    k.right.publications ∙ ap (λ xs. before ++ xs) (unpublished job c past h.well.made h.none_stopped off) ∙ append-nil before

-- who processes holds a place, which nobody does once every task has a winner
none_runs : (job : Job) (c : ConfValues) (past : Past) (a : AttemptId) → IsMade job.plan c past → all_done job.plan past ≡ true → (s : Stage) → stage a past ≡ s → is_processing s ≡ true → ⊥
none_runs job c past a m done Unknown e k = cc
none_runs job c past a m done InQueue e k = cc
none_runs job c past a m done (Waits p) e k = cc
none_runs job c past a m done Ended e k = cc
none_runs job c past a m done (Runs p) e k =
    let none = none_holds job.plan c past m done p in
    let some : holder p past ≡ Some a = (stands job.plan c past m p a (ap place_in e)).0 in
    cc

pub before_commit : (job : Job) (c : ConfValues) (ps : Parts) (past : Past) (a : AttemptId) → Holds job c ps past → processes ps.master a ≡ true → is_committing past ≡ false
before_commit job c ps past a h on = by (is_committing past) refl where
  by : (b : Bool) → is_committing past ≡ b → is_committing past ≡ false
  by true e = absurd (none_runs job c past a h.well.made (h.well.whole.committing h.up e) (stage a past) refl (runs_now job c ps past a h on))
  by false e = e

pub store_processing : (job : Job) (c : ConfValues) (ps : Parts) (past : Past) (a : AttemptId) (before : Named) (s : Store) → Holds job c ps past → processes ps.master a ≡ true → StoreStands job before past s → s.publications ≡ before
store_processing job c ps past a before s h on k = store_before_commit job c ps past before s h (before_commit job c ps past a h on) k

-- the job is finished, so every task has a winner
pub tasks_stored : (job : Job) (c : ConfValues) (ps : Parts) (past : Past) (before : Named) (s : Store) → Holds job c ps past → enabled_in ps.master Purge ≡ true → StoreStands job before past s
    → TasksWereStaged job (extend past (entries_of job.plan c past Purge)) s.stage_calls
tasks_stored job c ps past before s h on k =
    let end = (both {x = is_up past} (is_enabled job c ps past Purge h tt on)).1 in
    let committing = finished_committing job c past h.well.made h.none_over h.none_stopped end in
    tasks_staged job c past s.stage_calls h.well (h.well.whole.committing h.up committing) k.right.called
