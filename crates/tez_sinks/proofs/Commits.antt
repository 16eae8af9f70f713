-- The commit of a sink, where the history is well.
--     ready_named .. ready_again     a sink that is to be readied
--     publish_named .. publish_right     one that is to be published
--     publish_readied                    it was readied
use Rattle.std.specs.Prelude.{◌≡◌, ℕ, not, ◌||◌, Bool, true, false, List, ◌∷◌, Some, refl}
use Rattle.tez_ids.specs.declared.VertexId.{VertexId}
use Rattle.tez_lists.specs.Numbers.{In}
use Rattle.tez_ports.specs.Content.{Named, Store, bytes_of, publishes}
use Rattle.tez_commit.specs.Merge.{AreStaged, merged, prepares}
use Rattle.tez_plan.specs.Dag.{Dag}
use Rattle.tez_conf.specs.declared.values.ConfValues.{ConfValues}
use Rattle.tez_meaning.specs.Jobs.{Job}
use Rattle.tez_meaning.specs.Value.{value, sink_text}
use Rattle.tez_events.specs.declared.Entry.TheVariants.{Ready as Readied, Published}
use Rattle.tez_events.specs.declared.CoreEvent.TheVariants.{Ready, Publish}
use Rattle.tez_history.specs.Shape.{vertices, sinks}
use Rattle.tez_history.specs.History.{Past, is_up, is_finished, is_committing, is_found, is_readied}
use Rattle.tez_history.specs.Derived.{task_count, winners_of, is_vertex_done, all_done, is_next}
use Rattle.tez_history.specs.Steps.{enabled, is_running, may_publish}
use Rattle.tez_laws.proofs.Counting.{next_of, next_in, ready_sink}
use Rattle.tez_laws.proofs.StepLaw.{both}
use Rattle.tez_lists.proofs.Flat.{in-filter-out}
use Rattle.tez_progress.proofs.Members.{all_at}
use Rattle.tez_contents.specs.Laws.{WinnersAreWhole}
use Rattle.tez_contents.proofs.Whole.{winners_whole}
use Rattle.tez_sinks.specs.Sinks.{sink_of, sink_name, is_purged, StoreIsRight}
use Rattle.tez_sinks.specs.Well.{IsWell}
use Rattle.tez_sinks.proofs.Names.{has_name, listed_sink}
use Rattle.tez_sinks.proofs.Told.{not_told}
use Rattle.tez_sinks.proofs.Stores.{winners_staged, winners_merge, prepared_store, readied_store, published_store, running_kept}

not_true : (b : Bool) → not b ≡ true → b ≡ false
not_true true h = cc
not_true false h = refl

-- what is enabled while the job is not finished finds nothing purged
unpurged : (job : Job) (c : ConfValues) (past : Past) → IsWell job c past → is_running past ≡ true → is_purged past ≡ false
unpurged job c past w h = running_kept job.plan c past w.made (not_true (is_finished past) (both {x = is_up past} h).1)

whole : (job : Job) (c : ConfValues) (past : Past) → IsWell job c past → WinnersAreWhole job past
whole job c past w = winners_whole job c past w.ranges w.valid w.made w.allowed w.now w.kept

-- ---- to be readied

record Readies (g : Dag) (past : Past) (v : ℕ) : Type 0 where
  running : is_running past ≡ true
  sink : In v (sinks g)
  done : is_vertex_done g v past ≡ true

readies_now : (g : Dag) (c : ConfValues) (past : Past) (v : VertexId) → enabled g c past (Ready v) ≡ true → Readies g past v.0
readies_now g c past v on =
    let k = both {x = is_running past} on in
    let d = both {x = all_done g past} k.1 in
    let sink = ready_sink g past v.0 d.1 in
    record { running = k.0; sink = sink; done = all_at (λ u. is_vertex_done g u past) v.0 (vertices g) d.0 (in-filter-out _ v.0 (vertices g) sink) }

pub ready_named : (job : Job) (c : ConfValues) (past : Past) (v : VertexId) → enabled job.plan c past (Ready v) ≡ true → sink_of job.plan v.0 ≡ Some (sink_name job.plan v.0)
ready_named job c past v on = has_name job.plan v.0 (listed_sink job.plan v.0 (readies_now job.plan c past v on).sink).1

pub ready_staged : (job : Job) (c : ConfValues) (past : Past) (v : VertexId) (before : Named) (store : Store) → IsWell job c past → enabled job.plan c past (Ready v) ≡ true → StoreIsRight job past before store
    → AreStaged store.staged (winners_of v.0 (task_count job.plan v.0 past) past)
ready_staged job c past v before store w on r =
    let k = readies_now job.plan c past v on in
    winners_staged job past store.staged (r.staged (unpurged job c past w k.running)) v.0 (sink_name job.plan v.0) (ready_named job c past v on) (task_count job.plan v.0 past)

pub ready_merged : (job : Job) (c : ConfValues) (past : Past) (v : VertexId) (before : Named) (store : Store) → IsWell job c past → enabled job.plan c past (Ready v) ≡ true → StoreIsRight job past before store
    → merged store.staged (winners_of v.0 (task_count job.plan v.0 past) past) ≡ value job v.0
ready_merged job c past v before store w on r =
    let k = readies_now job.plan c past v on in
    winners_merge job past store.staged (r.staged (unpurged job c past w k.running)) v.0 (sink_name job.plan v.0) (ready_named job c past v on) (whole job c past w) k.done

pub ready_right : (job : Job) (c : ConfValues) (past : Past) (v : VertexId) (before : Named) (store : Store) → IsWell job c past → enabled job.plan c past (Ready v) ≡ true → StoreIsRight job past before store
    → StoreIsRight job (Readied v ∷ past) before (prepares (winners_of v.0 (task_count job.plan v.0 past) past) (sink_name job.plan v.0) store)
ready_right job c past v before store w on r =
    readied_store job w.valid past before store r v.0 (sink_name job.plan v.0) (ready_named job c past v on) (winners_of v.0 (task_count job.plan v.0 past) past)
    (λ p. ready_merged job c past v before store w on r) v refl

pub ready_again : (job : Job) (c : ConfValues) (past : Past) (v : ℕ) (name : List ℕ) (before : Named) (store : Store) → IsWell job c past → sink_of job.plan v ≡ Some name → is_vertex_done job.plan v past ≡ true → StoreIsRight job past before store
    → StoreIsRight job past before (prepares (winners_of v (task_count job.plan v past) past) name store)
ready_again job c past v name before store w sink done r =
    prepared_store job w.valid past before store r v name sink (winners_of v (task_count job.plan v past) past)
    (λ p. winners_merge job past store.staged (r.staged p) v name sink (whole job c past w) done)

pub ready_harmless : (job : Job) (c : ConfValues) (past : Past) (v : VertexId) (before : Named) (store : Store) → IsWell job c past → enabled job.plan c past (Ready v) ≡ true → StoreIsRight job past before store
    → StoreIsRight job past before (prepares (winners_of v.0 (task_count job.plan v.0 past) past) (sink_name job.plan v.0) store)
ready_harmless job c past v before store w on r = ready_again job c past v.0 (sink_name job.plan v.0) before store w (ready_named job c past v on) (readies_now job.plan c past v on).done r

-- ---- to be published

pub publish_readied : (job : Job) (c : ConfValues) (past : Past) (v : VertexId) → IsWell job c past → may_publish job.plan past v.0 ≡ true → is_readied v.0 past ≡ true
publish_readied job c past v w may =
    let k = both {x = is_committing past} may in
    let n = both {x = is_next job.plan past v.0} k.1 in
    by k.0 n.0 (is_found past) refl n.1
  where
    by : is_committing past ≡ true → is_next job.plan past v.0 ≡ true → (b : Bool) → is_found past ≡ b → (not b || is_readied v.0 past) ≡ true → is_readied v.0 past ≡ true
    by on next true e h = h
    by on next false e h = all_at (λ u. is_readied u past) v.0 (sinks job.plan) (w.committed on e) (next_in job.plan past v.0 next)

record Publishes (g : Dag) (past : Past) (v : ℕ) : Type 0 where
  running : is_running past ≡ true
  may : may_publish g past v ≡ true
  next : is_next g past v ≡ true
  sink : In v (sinks g)

publishes_now : (g : Dag) (c : ConfValues) (past : Past) (v : VertexId) → enabled g c past (Publish v) ≡ true → Publishes g past v.0
publishes_now g c past v on =
    let k = both {x = is_running past} on in
    let next = next_of g past v.0 k.1 in
    record { running = k.0; may = k.1; next = next; sink = next_in g past v.0 next }

pub publish_named : (job : Job) (c : ConfValues) (past : Past) (v : VertexId) → enabled job.plan c past (Publish v) ≡ true → sink_of job.plan v.0 ≡ Some (sink_name job.plan v.0)
publish_named job c past v on = has_name job.plan v.0 (listed_sink job.plan v.0 (publishes_now job.plan c past v on).sink).1

pub publish_found : (job : Job) (c : ConfValues) (past : Past) (v : VertexId) (before : Named) (store : Store) → IsWell job c past → enabled job.plan c past (Publish v) ≡ true → StoreIsRight job past before store
    → bytes_of (sink_name job.plan v.0) store.readied ≡ Some (sink_text job v.0)
publish_found job c past v before store w on r =
    let k = publishes_now job.plan c past v on in
    r.readied (unpurged job c past w k.running) v.0 (sink_name job.plan v.0) (publish_named job c past v on) (publish_readied job c past v w k.may) (not_told job.plan c past v.0 w.made k.next)

pub publish_right : (job : Job) (c : ConfValues) (past : Past) (v : VertexId) (before : Named) (store : Store) → IsWell job c past → enabled job.plan c past (Publish v) ≡ true → StoreIsRight job past before store
    → StoreIsRight job (Published v ∷ past) before (publishes (sink_name job.plan v.0) store)
publish_right job c past v before store w on r =
    published_store job w.valid past before store r v.0 (sink_name job.plan v.0) (publish_named job c past v on) v refl (publish_found job c past v before store w on r)
