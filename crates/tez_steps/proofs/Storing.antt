-- The store after an event that calls no device.
--     quiet_store, failed_store      as it is to be
--     quiet_ends, failed_ends        it did not fail
use Rattle.std.specs.Prelude.{◌≡◌, ◌&&◌, true, false, Bool, [], ◌∷◌, refl}
use Rattle.std.proofs.Common.{sym, ap, subst}
use Rattle.tez_ids.specs.declared.AttemptId.{AttemptId}
use Rattle.tez_conf.specs.declared.values.ConfValues.{ConfValues}
use Rattle.tez_events.specs.declared.CoreEvent.{CoreEvent}
use Rattle.tez_events.specs.declared.CoreEvent.TheVariants.{Open, Configure, Queue, Place, Fetch, Send, Preempt, Fail, LoseNode, LoseOutput, Restart, Ready, CommitStart, Ask, Publish, Finish, Purge}
use Rattle.tez_ports.specs.Content.{Named, Store}
use Rattle.tez_meaning.specs.Jobs.{Job}
use Rattle.tez_log.specs.Log.{LogState}
use Rattle.tez_history.specs.History.{Past, extend, is_up}
use Rattle.tez_history.specs.Steps.{entries_of}
use Rattle.tez_master_model.specs.State.{MasterState}
use Rattle.tez_master_model.specs.Read.{is_running, processes}
use Rattle.tez_master_model.specs.Enabled.{enabled_in}
use Rattle.tez_sinks.specs.Sinks.{HasNoSink, IsOfNoSink}
use Rattle.tez_world_invariant.specs.Keeping.{Parts}
use Rattle.tez_world_invariant.specs.Step.{IsPlain}
use Rattle.tez_world_invariant.specs.Store.{WasClear, StoreStands}
use Rattle.tez_steps.specs.declared.running.Running.{Running}
use Rattle.tez_steps.specs.declared.verdict.Verdict.{Verdict}
use Rattle.tez_steps.specs.declared.verdict.Took.{Took}
use Rattle.tez_steps.specs.declared.verdict.Took.TheVariants.{Changed, Ignored, Ended}
use Rattle.tez_steps.specs.Step.{Notes, AreNoted, SinksStand, StoreAfter, IsNoFault}
use Rattle.tez_steps.specs.Holds.{parts_of, with_right_notes, Holds, notes_of}
use Rattle.tez_steps.specs.Parts.{SameParts, IsTaken, IsFailed}
use Rattle.tez_steps.specs.Taking.{IsQuiet}
use Rattle.tez_world_invariant.proofs.EndsStore.{store_event, store_processing}
use Rattle.tez_world_invariant.proofs.PartsKeep.{leaves_event}

second : (x y : Bool) → (x && y) ≡ true → y ≡ true
second true y h = h
second false y h = cc

no_sink : (m : MasterState) (e : CoreEvent) → IsQuiet e → enabled_in m e ≡ true → IsOfNoSink e
no_sink m Open q h = cc
no_sink m (Configure v) q h = tt
no_sink m (Queue t) q h = tt
no_sink m (Place a p) q h = tt
no_sink m (Fetch a e i) q h = tt
no_sink m (Send a) q h = tt
no_sink m (Preempt a) q h = tt
no_sink m (Fail a) q h = tt
no_sink m (LoseNode slot) q h = tt
no_sink m (LoseOutput t) q h = tt
no_sink m Restart q h = cc
no_sink m (Ready v) q h = absurd q
no_sink m CommitStart q h = tt
no_sink m (Ask v) q h = cc
no_sink m (Publish v) q h = absurd q
no_sink m Finish q h = tt
no_sink m Purge q h = absurd q

pub clear_up : (job : Job) (before : Named) (past : Past) → is_up past ≡ true → WasClear job before past → HasNoSink job before
clear_up job before [] up h = cc
clear_up job before (e ∷ past) up h = h

pub same_notes : (r after : Running) → SameParts r after → notes_of after ≡ notes_of r
same_notes r after p = ap (λ (ps : Parts). record { texts = ps.texts; sums = ps.sums }) p.parts

-- what is noted stays right where no sink is readied and no commit starts
plain : (m : MasterState) (e : CoreEvent) → IsQuiet e → (e ≡ CommitStart → ⊥) → enabled_in m e ≡ true → IsPlain e
plain m Open q n h = cc
plain m (Configure v) q n h = tt
plain m (Queue t) q n h = tt
plain m (Place a p) q n h = tt
plain m (Fetch a e i) q n h = tt
plain m (Send a) q n h = tt
plain m (Preempt a) q n h = tt
plain m (Fail a) q n h = tt
plain m (LoseNode slot) q n h = tt
plain m (LoseOutput t) q n h = tt
plain m Restart q n h = cc
plain m (Ready v) q n h = absurd q
plain m CommitStart q n h = absurd (n refl)
plain m (Ask v) q n h = cc
plain m (Publish v) q n h = tt
plain m Finish q n h = tt
plain m Purge q n h = absurd q

pub noted_later : (job : Job) (c : ConfValues) (past : Past) (e : CoreEvent) (notes : Notes) → IsPlain e → is_up past ≡ true → AreNoted job past notes → AreNoted job (extend past (entries_of job.plan c past e)) notes
noted_later job c past e notes k up n =
    let left = leaves_event job.plan c past e k in
    record { rows = λ on. n.rows up; texts = λ v s r. n.texts v s (left.readied v r); sums = λ on. n.sums (left.committing on) }

pub quiet_store : (job : Job) (c : ConfValues) (e : CoreEvent) (r : Running) (log : LogState) (took : Took) (after : Running) (l : LogState) (before : Named) (s : Store)
    → Holds job c (parts_of r) log.past → IsQuiet e → (e ≡ CommitStart → ⊥) → IsTaken job c e r log took after l → (took ≡ Changed → notes_of after ≡ notes_of r) → SinksStand job before log.past (notes_of r) s → StoreAfter job before took l.past (notes_of after) s
quiet_store job c e r log Changed after l before s h q n k same stands =
    let on = subst (λ (m : MasterState). enabled_in m e ≡ true) (sym h.master) k.0 in
    let later = extend log.past (entries_of job.plan c log.past e) in
    let next : SinksStand job before later (notes_of r) s = record { store = store_event job c (with_right_notes job (parts_of r)) log.past e before s h on (no_sink (parts_of r).master e q on) stands.store; noted = noted_later job c log.past e (notes_of r) (plain (parts_of r).master e q n on) h.up stands.noted } in
    subst (λ (x : Notes). SinksStand job before l.past x s) (sym (same refl)) (subst (λ (p : Past). SinksStand job before p (notes_of r) s) (sym k.2) next)
quiet_store job c e r log (Ignored why) after l before s h q n k same stands =
    subst (λ (x : Notes). SinksStand job before l.past x s) (sym (same_notes r after k.2)) (subst (λ (p : Past). SinksStand job before p (notes_of r) s) (sym k.3.past) stands)
quiet_store job c e r log (Ended v) after l before s h q n k same stands = absurd k

pub failed_store : (job : Job) (c : ConfValues) (a : AttemptId) (r : Running) (log : LogState) (took : Took) (after : Running) (l : LogState) (before : Named) (s : Store)
    → Holds job c (parts_of r) log.past → IsFailed job c a r log took after l → (took ≡ Changed → notes_of after ≡ notes_of r) → SinksStand job before log.past (notes_of r) s → StoreAfter job before took l.past (notes_of after) s
failed_store job c a r log Changed after l before s h k same stands = quiet_store job c (Fail a) r log Changed after l before s h tt (λ n. cc) k same stands
failed_store job c a r log (Ignored why) after l before s h k same stands = quiet_store job c (Fail a) r log (Ignored why) after l before s h tt (λ n. cc) k same stands
failed_store job c a r log (Ended v) after l before s h k same stands =
    let on = subst (λ (m : MasterState). enabled_in m (Fail a) ≡ true) (sym h.master) k.0 in
    subst (λ (w : Verdict). StoreAfter job before (Ended w) l.past (notes_of after) s) (sym k.1)
    (store_processing job c (with_right_notes job (parts_of r)) log.past a before s h (second (is_running (parts_of r).master) (processes (parts_of r).master a) on) stands.store, clear_up job before log.past h.up stands.store.clear)

-- the commit starts: the notes are given
pub started_store : (job : Job) (c : ConfValues) (r : Running) (log : LogState) (took : Took) (after : Running) (l : LogState) (before : Named) (s : Store)
    → Holds job c (parts_of r) log.past → IsTaken job c CommitStart r log took after l → (took ≡ Changed → AreNoted job log.past (notes_of r) → AreNoted job l.past (notes_of after)) → SinksStand job before log.past (notes_of r) s → StoreAfter job before took l.past (notes_of after) s
started_store job c r log Changed after l before s h k noted stands =
    let on = subst (λ (m : MasterState). enabled_in m CommitStart ≡ true) (sym h.master) k.0 in
    record { store = subst (λ (p : Past). StoreStands job before p s) (sym k.2) (store_event job c (with_right_notes job (parts_of r)) log.past CommitStart before s h on tt stands.store); noted = noted refl stands.noted }
started_store job c r log (Ignored why) after l before s h k noted stands =
    subst (λ (x : Notes). SinksStand job before l.past x s) (sym (same_notes r after k.2)) (subst (λ (p : Past). SinksStand job before p (notes_of r) s) (sym k.3.past) stands)
started_store job c r log (Ended v) after l before s h k noted stands = absurd k

pub quiet_ends : (job : Job) (c : ConfValues) (e : CoreEvent) (r : Running) (log : LogState) (took : Took) (after : Running) (l : LogState) → IsTaken job c e r log took after l → IsNoFault took
quiet_ends job c e r log Changed after l k = tt
quiet_ends job c e r log (Ignored why) after l k = tt
quiet_ends job c e r log (Ended v) after l k = absurd k

pub failed_ends : (job : Job) (c : ConfValues) (a : AttemptId) (r : Running) (log : LogState) (took : Took) (after : Running) (l : LogState) → IsFailed job c a r log took after l → IsNoFault took
failed_ends job c a r log Changed after l k = tt
failed_ends job c a r log (Ignored why) after l k = tt
failed_ends job c a r log (Ended v) after l k = subst (λ (w : Verdict). IsNoFault (Ended w)) (sym k.1) tt
