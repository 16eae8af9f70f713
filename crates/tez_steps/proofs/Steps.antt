-- All that is said of a step.
--     changed_quiet, failed_quiet, started_quiet     of one that calls no device: an event that was taken, a failure, and the start of the commit
--     quiet_leaves, ignored_leaves                   what it leaves where the store was not called
--     quiet_step                                     one that calls no device is a step
use Rattle.std.specs.Prelude.{◌≡◌, ℕ, Option, Result, Ok, Err, IfOk, refl}
use Rattle.std.proofs.Common.{subst, arith}
use Rattle.tez_ids.specs.declared.AttemptId.{AttemptId}
use Rattle.tez_conf.specs.declared.values.ConfValues.{ConfValues}
use Rattle.tez_events.specs.declared.CoreEvent.{CoreEvent}
use Rattle.tez_events.specs.declared.CoreEvent.TheVariants.{Open, Configure, Queue, Place, Fetch, Send, Preempt, Fail, LoseNode, LoseOutput, Restart, Ready, CommitStart, Ask, Publish, Finish, Purge}
use Rattle.tez_ports.specs.Content.{Store}
use Rattle.tez_meaning.specs.Jobs.{Job}
use Rattle.tez_log.specs.Log.{LogState}
use Rattle.tez_master_model.specs.declared.why.Why.{Why}
use Rattle.tez_steps.specs.declared.event.Event.TheVariants.{Core}
use Rattle.tez_steps.specs.declared.running.Running.{Running}
use Rattle.tez_steps.specs.declared.verdict.Took.{Took}
use Rattle.tez_steps.specs.declared.verdict.Took.TheVariants.{Changed, Ignored}
use Rattle.tez_steps.specs.Step.{AreNoted, SinksStand, StoreAfter, IsNoFault}
use Rattle.tez_steps.specs.Holds.{parts_of, Holds, notes_of}
use Rattle.tez_steps.specs.Parts.{SameParts, SameLog, IsTaken, IsFailed, IsMasterOnly}
use Rattle.tez_steps.specs.Taking.{IsQuiet, IsQuietStep, LeavesStore, IsStep}
use Rattle.tez_steps.proofs.StepLaws.{taken_is, failed_is, ok_map, told_ok, same_stands, refused_stands, no_fault}
use Rattle.tez_steps.proofs.Storing.{quiet_store, failed_store, started_store, failed_ends}

pub changed_quiet : {E : Type 0} (job : Job) (c : ConfValues) (e : CoreEvent) (r : Running) (log : LogState) (after : Running) (l : LogState)
    → Holds job c (parts_of r) log.past → IsQuiet e → (e ≡ CommitStart → ⊥) → IsTaken job c e r log Changed after l → notes_of after ≡ notes_of r → IsQuietStep {E = E} job c e r log (Ok Changed) after l
changed_quiet job c e r log after l h q n k same = record {
  taken = taken_is job c e r log Changed after l k;
  refused_parts = tt;
  refused_log = tt;
  store = λ before s stands. quiet_store job c e r log Changed after l before s h q n k (λ x. same) stands;
  no_fault = tt;
}

pub failed_quiet : {E : Type 0} (job : Job) (c : ConfValues) (a : AttemptId) (r : Running) (log : LogState) (took : Took) (after : Running) (l : LogState)
    → Holds job c (parts_of r) log.past → IsFailed job c a r log took after l → notes_of after ≡ notes_of r → IsQuietStep {E = E} job c (Fail a) r log (Ok took) after l
failed_quiet job c a r log took after l h k same = record {
  taken = failed_is job c a r log took after l k;
  refused_parts = tt;
  refused_log = tt;
  store = λ before s stands. failed_store job c a r log took after l before s h k (λ x. same) stands;
  no_fault = failed_ends job c a r log took after l k;
}

pub started_quiet : {E : Type 0} (job : Job) (c : ConfValues) (r : Running) (log : LogState) (after : Running) (l : LogState)
    → Holds job c (parts_of r) log.past → IsTaken job c CommitStart r log Changed after l → (AreNoted job log.past (notes_of r) → AreNoted job l.past (notes_of after)) → IsQuietStep {E = E} job c CommitStart r log (Ok Changed) after l
started_quiet job c r log after l h k noted = record {
  taken = taken_is job c CommitStart r log Changed after l k;
  refused_parts = tt;
  refused_log = tt;
  store = λ before s stands. started_store job c r log Changed after l before s h k (λ x. noted) stands;
  no_fault = tt;
}

-- ---- a store that was not called

ok_each : {T E : Type 0} (P : T → Type 0) (r : Result T E) → ((x : T) → P x) → IfOk r P
ok_each P (Ok x) f = f x
ok_each P (Err e) f = tt

pub quiet_leaves : {S E : Type 0} (store_of : S → Option Store) (faults stops lent_of : S → ℕ) (is_sure : S → Type 0) (job : Job) (c : ConfValues) (e : CoreEvent) (r : Running) (log : LogState) (s : S) (result : Result Took E) (after : Running) (l : LogState)
    → IsQuietStep job c e r log result after l → LeavesStore store_of faults stops lent_of is_sure job r log s result after l s
quiet_leaves store_of faults stops lent_of is_sure job c e r log s result after l q = record {
  refused_parts = q.refused_parts;
  refused_log = q.refused_log;
  store = λ before told. told_ok (SinksStand job before log.past (notes_of r)) (λ took. StoreAfter job before took l.past (notes_of after)) (store_of s) result (λ x k. q.store before x k) told;
  store_refused = λ before told. refused_stands job before r after log l (store_of s) result q.refused_parts q.refused_log told;
  same_store = ok_each _ result (λ took ignored. refl);
  later = (omega arith, omega arith);
  fault = ok_map IsNoFault _ result (λ took k. no_fault (faults s) (stops s) (faults s) (stops s) took k) q.no_fault;
  told = refl;
  lent = refl;
  stays_sure = λ k. k;
  sure = λ before k t. q.no_fault;
}

pub ignored_leaves : {S E : Type 0} (store_of : S → Option Store) (faults stops lent_of : S → ℕ) (is_sure : S → Type 0) (job : Job) (r : Running) (log : LogState) (s : S) (why : Why) (after : Running) (l : LogState)
    → SameParts r after → SameLog log l → LeavesStore {E = E} store_of faults stops lent_of is_sure job r log s (Ok (Ignored why)) after l s
ignored_leaves store_of faults stops lent_of is_sure job r log s why after l parts logs = record {
  refused_parts = tt;
  refused_log = tt;
  store = λ before told x is. same_stands job before r after log l parts logs x (told x is);
  store_refused = λ before told. tt;
  same_store = λ ignored. refl;
  later = (omega arith, omega arith);
  fault = tt;
  told = refl;
  lent = refl;
  stays_sure = λ k. k;
  sure = λ before k t. tt;
}

pub quiet_step : {S E : Type 0} (store_of : S → Option Store) (faults stops lent_of : S → ℕ) (is_sure : S → Type 0) (job : Job) (c : ConfValues) (e : CoreEvent) (r : Running) (log : LogState) (s : S) (result : Result Took E) (after : Running) (l : LogState)
    → IsQuietStep job c e r log result after l → IsStep store_of faults stops lent_of is_sure job c (Core e) r log s result after l s
quiet_step store_of faults stops lent_of is_sure job c e r log s result after l q = record { taken = q.taken; leaves = quiet_leaves store_of faults stops lent_of is_sure job c e r log s result after l q }

-- ---- an event that changes the master only

pub master_only_quiet : (e : CoreEvent) → IsMasterOnly e → IsQuiet e
master_only_quiet Open k = tt
master_only_quiet (Configure v) k = tt
master_only_quiet (Queue t) k = tt
master_only_quiet (Place a p) k = absurd k
master_only_quiet (Fetch a e i) k = absurd k
master_only_quiet (Send a) k = absurd k
master_only_quiet (Preempt a) k = absurd k
master_only_quiet (Fail a) k = absurd k
master_only_quiet (LoseNode slot) k = absurd k
master_only_quiet (LoseOutput t) k = absurd k
master_only_quiet Restart k = tt
master_only_quiet (Ready v) k = absurd k
master_only_quiet CommitStart k = absurd k
master_only_quiet (Ask v) k = tt
master_only_quiet (Publish v) k = absurd k
master_only_quiet Finish k = tt
master_only_quiet Purge k = absurd k

pub master_only_no_commit : (e : CoreEvent) → IsMasterOnly e → e ≡ CommitStart → ⊥
master_only_no_commit e k is = subst IsMasterOnly is k
