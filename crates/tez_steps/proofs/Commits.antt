-- The steps of the commit.
--     renoted, by_parts           what holds of the parts, whatever is noted of the sinks
--     ready_kept, start_kept, publish_kept     what holds after each
--     noted_changed               the event was taken
--     ready_stands, ready_tried, ready_fault   the store after a sink was put aside, or may have been
--     publish_stands, publish_fault            the same of a publication
--     purge_stands, purge_fault, purge_taken   and of the purge
use Rattle.std.specs.Prelude.{◌≡◌, ◌⊎◌, ℕ, zero, suc, ◌+◌, ◌<◌, Bool, true, false, if◌then◌else◌, List, [], ◌∷◌, ◌++◌, map, length, slice_get, slice_set, slice_index_or, Option, Some, None, option_map, is_some, Err, IsErrOf, refl}
use Rattle.std.specs.List.{filter, filter_map, cons_option}
use Rattle.std.specs.Option.{option_map_or}
use Rattle.std.proofs.Common.{sym, ◌∙◌, ap, subst, arith, inl, inr}
use Rattle.std.proofs.lemmas.Option.{same_Some}
use Rattle.tez_ids.specs.declared.AttemptId.{AttemptId}
use Rattle.tez_ids.specs.declared.VertexId.{VertexId}
use Rattle.tez_lists.specs.Numbers.{numbers_from}
use Rattle.tez_lists.proofs.Tables.{get_each}
use Rattle.tez_plan.specs.declared.parts.VertexSpec.{VertexSpec}
use Rattle.tez_conf.specs.declared.values.ConfValues.{ConfValues}
use Rattle.tez_events.specs.declared.CoreEvent.{CoreEvent}
use Rattle.tez_events.specs.declared.CoreEvent.TheVariants.{Ready, CommitStart, Publish, Purge}
use Rattle.tez_ports.specs.Content.{Named, Store, Told, IsEither, bytes_of, publishes, purges}
use Rattle.tez_ports.specs.declared.faults.StoreFault.{StoreFault}
use Rattle.tez_ports.specs.declared.faults.StoreFault.TheVariants.{Failed as StoreFailed, NoMemory as StoreNoMemory}
use Rattle.tez_meaning.specs.Jobs.{Job}
use Rattle.tez_meaning.specs.Value.{sums}
use Rattle.tez_commit.specs.Merge.{AreStaged, merged, prepares}
use Rattle.tez_history.specs.Shape.{has_sink, sinks}
use Rattle.tez_history.specs.History.{Past, extend}
use Rattle.tez_history.specs.Derived.{task_count, winners_of}
use Rattle.tez_history.specs.Steps.{entries_of}
use Rattle.tez_master_model.specs.State.{MasterState}
use Rattle.tez_master_model.specs.Settled.{settled}
use Rattle.tez_master_model.specs.Enabled.{enabled_in}
use Rattle.tez_master_view.specs.View.{master_view}
use Rattle.tez_sinks.specs.Sinks.{sink_of, sink_name, TasksWereStaged}
use Rattle.tez_log.specs.Log.{LogState}
use Rattle.tez_master.specs.Master.{Step, Took, MasterParts, settled_by, entries_told}
use Rattle.tez_master.specs.declared.handled.Handled.{Handled}
use Rattle.tez_world_invariant.specs.Keeping.{Parts, Holds as HoldsNoted, most_entries, sum_of}
use Rattle.tez_world_invariant.specs.Step.{later, stepped}
use Rattle.tez_world_invariant.specs.Store.{IsSuccess, StoreStands, HasPublished, WasClear}
use Rattle.tez_world_invariant.proofs.PartsKeep.{quiet_keeps}
use Rattle.tez_world_invariant.proofs.EndsCommit.{ready_holds, start_holds, purged_succeeds, publish_name}
use Rattle.tez_world_invariant.proofs.EndsStore.{winners_merged, winners_staged, text_found, store_ready, store_prepared, store_publish, store_purge, store_published, store_tried, tasks_stored}
use Rattle.tez_steps.specs.declared.running.Running.{Running}
use Rattle.tez_steps.specs.declared.verdict.Took.TheVariants.{Changed}
use Rattle.tez_steps.specs.Step.{Notes, AreNoted, SinksStand}
use Rattle.tez_steps.specs.Holds.{parts_of, right_texts, with_right_notes, Holds, notes_of}
use Rattle.tez_steps.specs.Parts.{SameParts, SameLog, IsAsked, IsTaken}
use Rattle.tez_steps.specs.Committing.{winners_in, sum_in}
use Rattle.tez_steps.proofs.Events.{on_master, master_same}
use Rattle.tez_steps.proofs.NoteLaws.{winners_told, ready_noted, start_noted, purge_told}
use Rattle.tez_steps.proofs.Rows.{a_row_each}
use Rattle.tez_steps.proofs.Storing.{noted_later}
use Rattle.tez_steps.proofs.Taking.{same_both}
use Rattle.tez_steps.proofs.Tellings.{told_map, told_either}

-- ---- what holds, whatever is noted

pub low_sink : {X : Type 0} (xs : List X) (i : ℕ) (f : X → Bool) → option_map_or f (slice_get xs i) false ≡ true → i < length xs
low_sink [] i f h = cc
low_sink (x ∷ xs) zero f h = omega arith
low_sink (x ∷ xs) (suc i) f h = let rest = low_sink xs i f h in omega arith

right_text : (job : Job) (v : ℕ) → has_sink job.plan v ≡ true → slice_get (right_texts job) v ≡ Some (sum_of job v)
right_text job v sink =
    let low = low_sink job.plan.vertices v (λ (s : VertexSpec). is_some s.sink) sink in
    let same : 0 + v ≡ v = omega arith in
    get_each (sum_of job) 0 (length job.plan.vertices) v low ∙ ap (λ (n : ℕ). Some (sum_of job n)) same

pub renoted : (job : Job) (c : ConfValues) (ps : Parts) (past : Past) → HoldsNoted job c ps past → Holds job c ps past
renoted job c ps past h = record {
  goes = h.goes;
  well = h.well;
  up = h.up;
  none_kept = h.none_kept;
  none_over = h.none_over;
  none_stopped = h.none_stopped;
  short = h.short;
  master = h.master;
  seats = h.seats;
  shelves = h.shelves;
  good = h.good;
  texts = λ v sink ready. right_text job v sink;
  rows = a_row_each job;
  sums = λ on. refl;
}

pub by_parts : (job : Job) (c : ConfValues) (a b : Parts) (past : Past) → a.master ≡ b.master → a.seats ≡ b.seats → a.shelves ≡ b.shelves → Holds job c b past → Holds job c a past
by_parts job c a b past m d s h =
    subst (λ x. HoldsNoted job c (record { master = x; seats = a.seats; shelves = a.shelves; texts = right_texts job; sums = sums job }) past) (sym m)
    (subst (λ x. HoldsNoted job c (record { master = b.master; seats = x; shelves = a.shelves; texts = right_texts job; sums = sums job }) past) (sym d)
    (subst (λ x. HoldsNoted job c (record { master = b.master; seats = b.seats; shelves = x; texts = right_texts job; sums = sums job }) past) (sym s) h))

-- ---- each event

pub ready_kept : (job : Job) (c : ConfValues) (ps : Parts) (past : Past) (v : VertexId) → Holds job c ps past → enabled_in (master_view job.plan c past) (Ready v) ≡ true → length (later job c past (Ready v)) < most_entries
    → Holds job c (stepped ps (Ready v) ps.seats ps.shelves) (later job c past (Ready v))
ready_kept job c ps past v h on short = renoted job c _ (later job c past (Ready v)) (ready_holds job c (with_right_notes job ps) past v h (on_master job c ps past (Ready v) h on) short)

pub start_kept : (job : Job) (c : ConfValues) (ps : Parts) (past : Past) → Holds job c ps past → enabled_in (master_view job.plan c past) CommitStart ≡ true → length (later job c past CommitStart) < most_entries
    → Holds job c (stepped ps CommitStart ps.seats ps.shelves) (later job c past CommitStart)
start_kept job c ps past h on short = renoted job c _ (later job c past CommitStart) (start_holds job c (with_right_notes job ps) past h (on_master job c ps past CommitStart h on) short)

pub publish_kept : (job : Job) (c : ConfValues) (ps : Parts) (past : Past) (v : VertexId) → Holds job c ps past → enabled_in (master_view job.plan c past) (Publish v) ≡ true → length (later job c past (Publish v)) < most_entries
    → Holds job c (stepped ps (Publish v) ps.seats ps.shelves) (later job c past (Publish v))
publish_kept job c ps past v h on short = quiet_keeps job c (with_right_notes job ps) past (Publish v) tt tt tt h (on_master job c ps past (Publish v) h on) short

-- what came of the parts, but for the notes
pub record IsNoted (r after : Running) (log then_log : LogState) (h : Handled) (e : CoreEvent) : Type 0 where
  pub master : (s : Step) → r.master.pending ≡ Some s → after.master ≡ record { state = settled_by r.master.state s; pending = None }
  pub seats : after.seats ≡ r.seats
  pub shelves : after.shelves ≡ r.shelves
  pub past : then_log.past ≡ extend log.past (entries_told h)

pub noted_past : (job : Job) (c : ConfValues) (e : CoreEvent) (r after : Running) (old_log log then_log : LogState) (h : Handled) → SameLog old_log log → IsAsked (Took e) (entries_of job.plan c old_log.past e) h r log → IsNoted r after log then_log h e
    → then_log.past ≡ later job c old_log.past e
noted_past job c e r after old_log log then_log h same asked s = s.past ∙ ap (λ p. extend p (entries_told h)) same.past ∙ ap (extend old_log.past) asked.told

pub noted_changed : (job : Job) (c : ConfValues) (e : CoreEvent) (old r after : Running) (old_log log then_log : LogState) (h : Handled) → enabled_in (master_view job.plan c old_log.past) e ≡ true
    → SameParts old r → SameLog old_log log → IsAsked (Took e) (entries_of job.plan c old_log.past e) h r log → IsNoted r after log then_log h e
    → Holds job c (stepped (parts_of old) e old.seats.seats old.shelves) (later job c old_log.past e) → IsTaken job c e old old_log Changed after then_log
noted_changed job c e old r after old_log log then_log h on same same_log asked s holds =
    let past = noted_past job c e r after old_log log then_log h same_log asked s in
    let master : after.master.state ≡ settled old.master.state e =
    ap (λ (m : MasterParts). m.state) (s.master (Took e) asked.pending) ∙ ap (λ (m : MasterState). settled m e) (master_same old r same) in (
      on,
      subst (λ (p : Past). Holds job c (parts_of after) p) (sym past)
          (by_parts job c (parts_of after) (stepped (parts_of old) e old.seats.seats old.shelves) (later job c old_log.past e) master
          (ap (λ d. d.seats) s.seats ∙ ap (λ (ps : Parts). ps.seats) same.parts) (s.shelves ∙ ap (λ (ps : Parts). ps.shelves) same.parts) holds),
      past,
    )

-- ---- a sink is put aside

pub winners_same : (job : Job) (c : ConfValues) (old r : Running) (past : Past) (v : VertexId) → SameParts old r → Holds job c (parts_of old) past → enabled_in (master_view job.plan c past) (Ready v) ≡ true
    → winners_in r.master.state v.0 ≡ winners_of v.0 (task_count job.plan v.0 past) past
winners_same job c old r past v same h on = ap (λ (m : MasterState). winners_in m v.0) (master_same old r same) ∙ winners_told job c (parts_of old) past v h (on_master job c (parts_of old) past (Ready v) h on)

pub ready_stands : (job : Job) (c : ConfValues) (old : Running) (past : Past) (v : VertexId) (ws : List AttemptId) (sum : ℕ × ℕ) (before : Named) (notes : Notes) (s : Store) → Holds job c (parts_of old) past → enabled_in (master_view job.plan c past) (Ready v) ≡ true
    → length (later job c past (Ready v)) < most_entries → ws ≡ winners_of v.0 (task_count job.plan v.0 past) past → sum ≡ sum_in (merged s.staged ws) → SinksStand job before past notes s
    → SinksStand job before (later job c past (Ready v)) (record { texts = slice_set notes.texts v.0 sum; sums = notes.sums }) (prepares ws (sink_name job.plan v.0) s)
ready_stands job c old past v ws sum before notes s h on short is told stands =
    let here = on_master job c (parts_of old) past (Ready v) h on in
    let right = winners_merged job c (with_right_notes job (parts_of old)) past v before s h here stands.store in
    record {
      store = subst (λ (xs : List AttemptId). StoreStands job before (later job c past (Ready v)) (prepares xs (sink_name job.plan v.0) s)) (sym is) (store_ready job c (with_right_notes job (parts_of old)) past v before s h here stands.store);
      noted = ready_noted job c (parts_of old) past v notes sum h here short stands.noted (told ∙ ap (λ (xs : List AttemptId). sum_in (merged s.staged xs)) is ∙ ap sum_in right);
    }

pub ready_tried : (job : Job) (c : ConfValues) (old : Running) (past : Past) (v : VertexId) (ws : List AttemptId) (before : Named) (notes : Notes) (s : Store) → Holds job c (parts_of old) past → enabled_in (master_view job.plan c past) (Ready v) ≡ true
    → ws ≡ winners_of v.0 (task_count job.plan v.0 past) past → SinksStand job before past notes s → SinksStand job before past notes (prepares ws (sink_name job.plan v.0) s)
ready_tried job c old past v ws before notes s h on is stands = record {
  store = subst (λ (xs : List AttemptId). StoreStands job before past (prepares xs (sink_name job.plan v.0) s)) (sym is) (store_prepared job c (with_right_notes job (parts_of old)) past v before s h (on_master job c (parts_of old) past (Ready v) h on) stands.store);
  noted = stands.noted;
}

pub stands_fault : (job : Job) (c : ConfValues) (old : Running) (past : Past) (before : Named) (notes : Notes) (s : Store) → Holds job c (parts_of old) past → SinksStand job before past notes s → HasPublished job before s × WasClear job before past
stands_fault job c old past before notes s h stands = (store_published job c (with_right_notes job (parts_of old)) past before s h stands.store, stands.store.clear)

module _ (job : Job) (c : ConfValues) (old : Running) (past : Past) (v : VertexId) (ws : List AttemptId) (name : List ℕ) (h : Holds job c (parts_of old) past) (on : enabled_in (master_view job.plan c past) (Ready v) ≡ true)
    (is : ws ≡ winners_of v.0 (task_count job.plan v.0 past) past) (named : name ≡ sink_name job.plan v.0) where
  -- it was put aside
  pub ready_told : (sum : ℕ × ℕ) (before : Named) (notes next : Notes) (then_past : Past) (o n : Option Store) → length (later job c past (Ready v)) < most_entries → n ≡ option_map (prepares ws name) o → Told o (λ s. sum ≡ sum_in (merged s.staged ws))
      → next ≡ record { texts = slice_set notes.texts v.0 sum; sums = notes.sums } → then_past ≡ later job c past (Ready v) → Told o (SinksStand job before past notes) → Told n (SinksStand job before then_past next)
  ready_told sum before notes next then_past o n short ok sums_are next_is past_is told =
      told_map (λ s. SinksStand job before past notes s × (sum ≡ sum_in (merged s.staged ws))) (SinksStand job before then_past next) o n (prepares ws name) ok
      (λ s k.
      subst (λ (x : Notes). SinksStand job before then_past x (prepares ws name s)) (sym next_is)
      (subst (λ (p : Past). SinksStand job before p (record { texts = slice_set notes.texts v.0 sum; sums = notes.sums }) (prepares ws name s)) (sym past_is)
      (subst (λ (x : List ℕ). SinksStand job before (later job c past (Ready v)) (record { texts = slice_set notes.texts v.0 sum; sums = notes.sums }) (prepares ws x s)) (sym named)
      (ready_stands job c old past v ws sum before notes s h on short is k.1 k.0))))
      (λ s t. (told s t, sums_are s t))

  tried : (before : Named) (notes : Notes) (s : Store) → SinksStand job before past notes s → SinksStand job before past notes (prepares ws name s)
  tried before notes s k = subst (λ (x : List ℕ). SinksStand job before past notes (prepares ws x s)) (sym named) (ready_tried job c old past v ws before notes s h on is k)

  -- it may have been
  pub ready_refused : (before : Named) (notes next : Notes) (then_past : Past) (o n : Option Store) → IsEither (prepares ws name) o n → next ≡ notes → then_past ≡ past → Told o (SinksStand job before past notes) → Told n (SinksStand job before then_past next)
  ready_refused before notes next then_past o n either next_is past_is told =
      told_either (SinksStand job before past notes) (SinksStand job before then_past next) o n (prepares ws name) either
      (λ s k. moved s k)
      (λ s k. moved (prepares ws name s) (tried before notes s k)) told
    where
      moved : (s : Store) → SinksStand job before past notes s → SinksStand job before then_past next s
      moved s k = subst (λ (x : Notes). SinksStand job before then_past x s) (sym next_is) (subst (λ (p : Past). SinksStand job before p notes s) (sym past_is) k)

  pub ready_fault : (before : Named) (notes : Notes) (then_past : Past) (o n : Option Store) → IsEither (prepares ws name) o n → then_past ≡ past → Told o (SinksStand job before past notes) → Told n (λ s. HasPublished job before s × WasClear job before then_past)
  ready_fault before notes then_past o n either past_is told =
      told_either (SinksStand job before past notes) (λ s. HasPublished job before s × WasClear job before then_past) o n (prepares ws name) either
      (λ s k. faulted s k)
      (λ s k. faulted (prepares ws name s) (tried before notes s k)) told
    where
      faulted : (s : Store) → SinksStand job before past notes s → HasPublished job before s × WasClear job before then_past
      faulted s k = subst (λ (p : Past). HasPublished job before s × WasClear job before p) (sym past_is) (stands_fault job c old past before notes s h k)

  -- a sure store has what was staged
  pub ready_sure : (before : Named) (notes : Notes) (o : Option Store) → is_some o ≡ true → Told o (λ s. AreStaged s.staged ws → ⊥) → Told o (SinksStand job before past notes) → ⊥
  ready_sure before notes None some not_staged told = cc
  ready_sure before notes (Some s) some not_staged told =
      not_staged s refl (subst (AreStaged s.staged) (sym is) (winners_staged job c (with_right_notes job (parts_of old)) past v before s h (on_master job c (parts_of old) past (Ready v) h on) (told s refl).store))

-- the notes after it
pub ready_next : (old r after : Running) (i : ℕ) (sum : ℕ × ℕ) (texts : List (ℕ × ℕ)) → texts ≡ slice_set r.texts.items i sum → after.texts.items ≡ texts → after.sums.items ≡ r.sums.items → notes_of r ≡ notes_of old
    → notes_of after ≡ record { texts = slice_set (notes_of old).texts i sum; sums = (notes_of old).sums }
ready_next old r after i sum texts set same sums_same notes =
    same_both (notes_of after) (record { texts = slice_set r.texts.items i sum; sums = r.sums.items }) (same ∙ set) sums_same
    ∙ ap (λ (n : Notes). record { texts = slice_set n.texts i sum; sums = n.sums }) notes

-- ---- a publication

module _ (job : Job) (c : ConfValues) (old : Running) (past : Past) (v : VertexId) (name : List ℕ) (h : Holds job c (parts_of old) past) (on : enabled_in (master_view job.plan c past) (Publish v) ≡ true) (named : name ≡ sink_name job.plan v.0) where
  here : enabled_in old.master.state (Publish v) ≡ true
  here = on_master job c (parts_of old) past (Publish v) h on

  stood : (before : Named) (notes : Notes) (s : Store) → SinksStand job before past notes s → SinksStand job before (later job c past (Publish v)) notes (publishes (sink_name job.plan v.0) s)
  stood before notes s k = record {
    store = store_publish job c (with_right_notes job (parts_of old)) past v before s h here k.store;
    noted = noted_later job c past (Publish v) notes tt h.up k.noted;
  }

  pub publish_told : (before : Named) (notes next : Notes) (then_past : Past) (o n : Option Store) → n ≡ option_map (publishes name) o → next ≡ notes → then_past ≡ later job c past (Publish v) → Told o (SinksStand job before past notes) → Told n (SinksStand job before then_past next)
  publish_told before notes next then_past o n ok next_is past_is told =
      told_map (SinksStand job before past notes) (SinksStand job before then_past next) o n (publishes name) ok
      (λ s k.
      subst (λ (x : Notes). SinksStand job before then_past x (publishes name s)) (sym next_is)
      (subst (λ (p : Past). SinksStand job before p notes (publishes name s)) (sym past_is)
      (subst (λ (x : List ℕ). SinksStand job before (later job c past (Publish v)) notes (publishes x s)) (sym named) (stood before notes s k)))) told

  pub publish_fault : (before : Named) (notes : Notes) (then_past : Past) (o n : Option Store) → IsEither (publishes name) o n → then_past ≡ past → Told o (SinksStand job before past notes) → Told n (λ s. HasPublished job before s × WasClear job before then_past)
  publish_fault before notes then_past o n either past_is told =
      told_either (SinksStand job before past notes) (λ s. HasPublished job before s × WasClear job before then_past) o n (publishes name) either
      (λ s k. subst (λ (p : Past). HasPublished job before s × WasClear job before p) (sym past_is) (stands_fault job c old past before notes s h k))
      (λ s k.
      subst (λ (p : Past). HasPublished job before (publishes name s) × WasClear job before p) (sym past_is)
      (subst (λ (x : List ℕ). HasPublished job before (publishes x s)) (sym named) (store_tried job c (with_right_notes job (parts_of old)) past v before s h here k.store), k.store.clear)) told

  pub publish_sure : (before : Named) (notes : Notes) (o : Option Store) → is_some o ≡ true → Told o (λ s. bytes_of name s.readied ≡ None) → Told o (SinksStand job before past notes) → ⊥
  publish_sure before notes None some none told = cc
  publish_sure before notes (Some s) some none told =
      let there = text_found job c (with_right_notes job (parts_of old)) past v before s h here (told s refl).store in
      let gone = subst (λ (x : List ℕ). bytes_of x s.readied ≡ None) named (none s refl) in
      cc

-- ---- the purge

module _ (job : Job) (c : ConfValues) (old : Running) (past : Past) (h : Holds job c (parts_of old) past) (on : enabled_in (master_view job.plan c past) Purge ≡ true) where
  pub purge_taken : (then_past : Past) → then_past ≡ later job c past Purge → IsSuccess job (sums job) then_past
  purge_taken then_past is = subst (IsSuccess job (sums job)) (sym is) (purged_succeeds job c (with_right_notes job (parts_of old)) past h (on_master job c (parts_of old) past Purge h on))

  pub purge_told_now : (before : Named) (pairs : List (ℕ × ℕ)) (then_past : Past) (o n : Option Store) → n ≡ option_map purges o → pairs ≡ old.sums.items → then_past ≡ later job c past Purge → Told o (SinksStand job before past (notes_of old))
      → Told n (λ s. StoreStands job before then_past s × (pairs ≡ sums job) × TasksWereStaged job then_past s.stage_calls)
  purge_told_now before pairs then_past o n ok pairs_are past_is told =
      told_map (SinksStand job before past (notes_of old)) (λ s. StoreStands job before then_past s × (pairs ≡ sums job) × TasksWereStaged job then_past s.stage_calls) o n purges ok
      (λ s k. (
        subst (λ (p : Past). StoreStands job before p (purges s)) (sym past_is) (store_purge job c (with_right_notes job (parts_of old)) past before s h k.store),
        pairs_are ∙ purge_told job c (parts_of old) past (notes_of old) h (on_master job c (parts_of old) past Purge h on) k.noted,
        subst (λ (p : Past). TasksWereStaged job p s.stage_calls) (sym past_is) (tasks_stored job c (with_right_notes job (parts_of old)) past before s h (on_master job c (parts_of old) past Purge h on) k.store),
      )) told

  pub purge_fault : (before : Named) (notes : Notes) (then_past : Past) (o n : Option Store) → IsEither purges o n → then_past ≡ past → Told o (SinksStand job before past notes) → Told n (λ s. HasPublished job before s × WasClear job before then_past)
  purge_fault before notes then_past o n either past_is told =
      told_either (SinksStand job before past notes) (λ s. HasPublished job before s × WasClear job before then_past) o n purges either
      (λ s k. faulted s k)
      (λ s k. faulted s k) told
    where
      faulted : (s : Store) → SinksStand job before past notes s → HasPublished job before s × WasClear job before then_past
      faulted s k = subst (λ (p : Past). HasPublished job before s × WasClear job before p) (sym past_is) (stands_fault job c old past before notes s h k)

-- ---- lists of numbers

numbers_last : (k n : ℕ) → numbers_from k (n + 1) ≡ numbers_from k n ++ (k + n) ∷ []
numbers_last k zero = let same : k ≡ k + 0 = omega arith in ap (λ (x : ℕ). x ∷ []) same
numbers_last k (suc n) =
    let same : suc k + n ≡ k + suc n = omega arith in
    let more : suc n + 1 ≡ suc (n + 1) = omega arith in
    ap (numbers_from k) more
    ∙ ap (λ (xs : List ℕ). k ∷ xs) (numbers_last (suc k) n ∙ ap (λ (x : ℕ). numbers_from (suc k) n ++ x ∷ []) same)

numbers_next : (n : ℕ) → numbers_from 0 (n + 1) ≡ numbers_from 0 n ++ n ∷ []
numbers_next n = let same : 0 + n ≡ n = omega arith in numbers_last 0 n ∙ ap (λ (x : ℕ). numbers_from 0 n ++ x ∷ []) same

found_append : {X : Type 0} (f : ℕ → Option X) (xs : List ℕ) (y : ℕ) → filter_map f (xs ++ y ∷ []) ≡ filter_map f xs ++ cons_option (f y) []
found_append f [] y = refl
found_append f (x ∷ xs) y = by (f x) (found_append f xs y) where
  by : (o : Option _) → filter_map f (xs ++ y ∷ []) ≡ filter_map f xs ++ cons_option (f y) [] → cons_option o (filter_map f (xs ++ y ∷ [])) ≡ cons_option o (filter_map f xs) ++ cons_option (f y) []
  by None e = e
  by (Some z) e = ap (λ zs. z ∷ zs) e

pub one_found : {X : Type 0} (f : ℕ → Option X) (n : ℕ) (x : X) (was now : List X) → f n ≡ Some x → was ≡ filter_map f (numbers_from 0 n) → now ≡ was ++ x ∷ [] → now ≡ filter_map f (numbers_from 0 (n + 1))
one_found f n x was now is w e =
    e ∙ ap (λ xs. xs ++ x ∷ []) w ∙ sym (ap (filter_map f) (numbers_next n) ∙ found_append f (numbers_from 0 n) n ∙ ap (λ o. filter_map f (numbers_from 0 n) ++ cons_option o []) is)

pub pair_told : (o : Option Store) (a b : ℕ) (f g : Store → ℕ) → Told o (λ s. a ≡ f s) → Told o (λ s. b ≡ g s) → Told o (λ s. ◌≡◌ {A = ℕ × ℕ} (a, b) (f s, g s))
pair_told o a b f g h k s t = ap (λ (x : ℕ). (x, b)) (h s t) ∙ ap (λ (y : ℕ). (f s, y)) (k s t)

kept_append : (p : ℕ → Bool) (f : ℕ → ℕ × ℕ) (xs : List ℕ) (y : ℕ) → map f (filter p (xs ++ y ∷ [])) ≡ map f (filter p xs) ++ (if p y then f y ∷ [] else [])
kept_append p f [] y = by (p y) where
  by : (b : Bool) → map f (if b then y ∷ [] else []) ≡ (if b then f y ∷ [] else [])
  by true = refl
  by false = refl
kept_append p f (x ∷ xs) y = by (p x) (kept_append p f xs y) where
  by : (b : Bool) → map f (filter p (xs ++ y ∷ [])) ≡ map f (filter p xs) ++ (if p y then f y ∷ [] else [])
      → map f (if b then x ∷ filter p (xs ++ y ∷ []) else filter p (xs ++ y ∷ [])) ≡ map f (if b then x ∷ filter p xs else filter p xs) ++ (if p y then f y ∷ [] else [])
  by true e = ap (λ zs. f x ∷ zs) e
  by false e = e

pub one_kept : (p : ℕ → Bool) (f : ℕ → ℕ × ℕ) (n : ℕ) (was now : List (ℕ × ℕ)) → p n ≡ true → was ≡ map f (filter p (numbers_from 0 n)) → now ≡ was ++ f n ∷ [] → now ≡ map f (filter p (numbers_from 0 (n + 1)))
one_kept p f n was now is w e =
    e ∙ ap (λ xs. xs ++ f n ∷ []) w
    ∙ sym (ap (λ xs. map f (filter p xs)) (numbers_next n) ∙ kept_append p f (numbers_from 0 n) n ∙ ap (λ (b : Bool). map f (filter p (numbers_from 0 n)) ++ (if b then f n ∷ [] else [])) is)

right_nil : {X : Type 0} (xs : List X) → xs ++ [] ≡ xs
right_nil [] = refl
right_nil (x ∷ xs) = ap (λ ys. x ∷ ys) (right_nil xs)

pub one_passed : (p : ℕ → Bool) (f : ℕ → ℕ × ℕ) (n : ℕ) (was : List (ℕ × ℕ)) → p n ≡ false → was ≡ map f (filter p (numbers_from 0 n)) → was ≡ map f (filter p (numbers_from 0 (n + 1)))
one_passed p f n was is w =
    w ∙ sym (ap (λ xs. map f (filter p xs)) (numbers_next n) ∙ kept_append p f (numbers_from 0 n) n ∙ ap (λ (b : Bool). map f (filter p (numbers_from 0 n)) ++ (if b then f n ∷ [] else [])) is ∙ right_nil (map f (filter p (numbers_from 0 n))))

pub none_found : {X : Type 0} (f : ℕ → Option X) (n : ℕ) (was : List X) → f n ≡ None → was ≡ filter_map f (numbers_from 0 n) → was ≡ filter_map f (numbers_from 0 (n + 1))
none_found f n was is w =
    w ∙ sym (ap (filter_map f) (numbers_next n) ∙ found_append f (numbers_from 0 n) n ∙ ap (λ o. filter_map f (numbers_from 0 n) ++ cons_option o []) is ∙ right_nil (filter_map f (numbers_from 0 n)))

-- ---- names

pub same_name : (job : Job) (c : ConfValues) (old : Running) (past : Past) (v : VertexId) (name : List ℕ) → Holds job c (parts_of old) past → enabled_in (master_view job.plan c past) (Publish v) ≡ true → sink_of job.plan v.0 ≡ Some name → name ≡ sink_name job.plan v.0
same_name job c old past v name h on is =
    same_Some name (sink_name job.plan v.0) (sym is ∙ publish_name job c (with_right_notes job (parts_of old)) past v h (on_master job c (parts_of old) past (Publish v) h on))

pub sink_there_now : (job : Job) (c : ConfValues) (old : Running) (past : Past) (v : VertexId) → Holds job c (parts_of old) past → enabled_in (master_view job.plan c past) (Publish v) ≡ true → sink_of job.plan v.0 ≡ None → ⊥
sink_there_now job c old past v h on is =
    let there = publish_name job c (with_right_notes job (parts_of old)) past v h (on_master job c (parts_of old) past (Publish v) h on) in
    let no : None ≡ Some (sink_name job.plan v.0) = sym is ∙ there in
    cc

pub not_memory : {T B : Type 0} (f : StoreFault) → f ≡ StoreFailed → IsErrOf {T = T} {E = StoreFault} (Err f) StoreNoMemory ⊎ B → B
not_memory f is (inl k) = cc
not_memory f is (inr b) = b

-- the notes once the commit has started
pub start_next : (job : Job) (old r after : Running) (texts told : List (ℕ × ℕ)) → texts ≡ r.texts.items → told ≡ map (λ v. slice_index_or texts v (0, 0)) (sinks job.plan) → after.texts.items ≡ r.texts.items → after.sums.items ≡ told → notes_of r ≡ notes_of old
    → notes_of after ≡ record { texts = (notes_of old).texts; sums = map (λ v. slice_index_or (notes_of old).texts v (0, 0)) (sinks job.plan) }
start_next job old r after texts told is told_is texts_same sums_same notes =
    same_both (notes_of after) (record { texts = r.texts.items; sums = map (λ v. slice_index_or r.texts.items v (0, 0)) (sinks job.plan) }) texts_same
    (sums_same ∙ told_is ∙ ap (λ (ts : List (ℕ × ℕ)). map (λ v. slice_index_or ts v (0, 0)) (sinks job.plan)) is)
    ∙ ap (λ (n : Notes). record { texts = n.texts; sums = map (λ v. slice_index_or n.texts v (0, 0)) (sinks job.plan) }) notes

pub start_right : (job : Job) (c : ConfValues) (old : Running) (past then_past : Past) (next : Notes) → Holds job c (parts_of old) past → enabled_in (master_view job.plan c past) CommitStart ≡ true → length (later job c past CommitStart) < most_entries
    → then_past ≡ later job c past CommitStart → next ≡ record { texts = (notes_of old).texts; sums = map (λ v. slice_index_or (notes_of old).texts v (0, 0)) (sinks job.plan) } → AreNoted job past (notes_of old) → AreNoted job then_past next
start_right job c old past then_past next h on short past_is next_is n =
    subst (λ (p : Past). AreNoted job p next) (sym past_is)
    (subst (AreNoted job (later job c past CommitStart)) (sym next_is) (start_noted job c (parts_of old) past (notes_of old) h (on_master job c (parts_of old) past CommitStart h on) short n))
