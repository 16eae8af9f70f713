-- What the parts of a step make of an event is what a running master makes of it.
--     taken_is, failed_is, done_is, reported_is      each part
--     told_ok, same_stands, no_fault                 a store that was not called
use Rattle.std.specs.Prelude.{ℕ, Option, Result, Ok, Err, IfOk, OnOk, OnErr, refl}
use Rattle.std.proofs.Common.{sym, subst}
use Rattle.tez_conf.specs.declared.values.ConfValues.{ConfValues}
use Rattle.tez_ids.specs.declared.AttemptId.{AttemptId}
use Rattle.tez_events.specs.declared.CoreEvent.{CoreEvent}
use Rattle.tez_events.specs.declared.CoreEvent.TheVariants.{Fail}
use Rattle.tez_ports.specs.Content.{Named, Store, Told}
use Rattle.tez_meaning.specs.Jobs.{Job}
use Rattle.tez_log.specs.Log.{LogState}
use Rattle.tez_history.specs.History.{Past}
use Rattle.tez_orders.specs.Outcomes.{ReportParts}
use Rattle.tez_steps.specs.declared.event.Event.TheVariants.{Core, Report}
use Rattle.tez_steps.specs.declared.running.Running.{Running}
use Rattle.tez_steps.specs.declared.verdict.Verdict.{Verdict}
use Rattle.tez_steps.specs.declared.verdict.Verdict.TheVariants.{Succeeded, SinkExists, AttemptsSpent, DeviceFault}
use Rattle.tez_steps.specs.declared.verdict.Took.{Took}
use Rattle.tez_steps.specs.declared.verdict.Took.TheVariants.{Changed, Ignored, Ended}
use Rattle.tez_steps.specs.Step.{Notes, Up, SinksStand, IsEnd, EndIs, FaultIs, IsNoFault}
use Rattle.tez_steps.specs.Holds.{notes_of}
use Rattle.tez_steps.specs.Parts.{SameParts, SameLog, IsTaken, IsFailed, IsDone, IsReported}
use Rattle.tez_steps.specs.Taking.{IsTook}
use Rattle.tez_steps.proofs.Storing.{same_notes}
use Rattle.tez_steps.proofs.Tellings.{told_same}

pub taken_is : (job : Job) (c : ConfValues) (e : CoreEvent) (r : Running) (log : LogState) (took : Took) (after : Running) (l : LogState) → IsTaken job c e r log took after l → IsTook job c (Core e) r log took after l
taken_is job c e r log Changed after l h = ((h.0, h.2), h.1)
taken_is job c e r log (Ignored why) after l h = ((h.0, h.1), h.2, h.3)
taken_is job c e r log (Ended v) after l h = absurd h

pub failed_is : (job : Job) (c : ConfValues) (a : AttemptId) (r : Running) (log : LogState) (took : Took) (after : Running) (l : LogState) → IsFailed job c a r log took after l → IsTook job c (Core (Fail a)) r log took after l
failed_is job c a r log Changed after l h = ((h.0, h.2), h.1)
failed_is job c a r log (Ignored why) after l h = ((h.0, h.1), h.2, h.3)
failed_is job c a r log (Ended v) after l h =
    subst (λ (w : Verdict). EndIs job c Up log.past (Core (Fail a)) w l.past × IsEnd job c w l.past) (sym h.1)
    (((h.0, h.3), (a, refl, refl)), subst (λ (w : Verdict). IsEnd job c w l.past) h.1 h.2)

pub done_is : (job : Job) (c : ConfValues) (e : CoreEvent) (r : Running) (log : LogState) (took : Took) (after : Running) (l : LogState) → IsDone job c e r log took after l → IsTook job c (Core e) r log took after l
done_is job c e r log Changed after l h = ((h.0, h.2), h.1)
done_is job c e r log (Ignored why) after l h = ((h.0, h.1), h.2, h.3)
done_is job c e r log (Ended (DeviceFault d)) after l h = (h.2.past, tt)
done_is job c e r log (Ended (Succeeded pairs)) after l h = ((h.0, h.2), h.1)
done_is job c e r log (Ended (SinkExists v)) after l h = absurd h
done_is job c e r log (Ended (AttemptsSpent t)) after l h = absurd h

pub reported_is : (job : Job) (c : ConfValues) (x : ReportParts) (r : Running) (log : LogState) (took : Took) (after : Running) (l : LogState) → IsReported job c x r log took after l → IsTook job c (Report x) r log took after l
reported_is job c x r log Changed after l h = h
reported_is job c x r log (Ignored why) after l h = h
reported_is job c x r log (Ended (DeviceFault d)) after l h = (h.1.past, tt)
reported_is job c x r log (Ended (Succeeded pairs)) after l h = absurd h
reported_is job c x r log (Ended (SinkExists v)) after l h = absurd h
reported_is job c x r log (Ended (AttemptsSpent t)) after l h = ((h.0, (x.order.attempt, (refl, h.2), h.1)), h.3)

-- ---- an answer that is no refusal

pub ok_map : {T E : Type 0} (P Q : T → Type 0) (r : Result T E) → ((x : T) → P x → Q x) → IfOk r P → IfOk r Q
ok_map P Q (Ok x) f h = f x h
ok_map P Q (Err e) f h = tt

pub ok_both : {T E : Type 0} (P : T → Type 0) (R : Type 0) (Q : T → Type 0) (r : Result T E) → ((x : T) → P x → R → Q x) → IfOk r P → OnOk r R → IfOk r Q
ok_both P R Q (Ok x) f h k = f x h k
ok_both P R Q (Err e) f h k = tt

-- ---- a store that was not called

pub told_ok : {T E : Type 0} (P : Store → Type 0) (Q : T → Store → Type 0) (o : Option Store) (r : Result T E) → ((s : Store) → P s → IfOk r (λ x. Q x s)) → Told o P → IfOk r (λ x. Told o (Q x))
told_ok P Q o (Ok x) f t = λ s is. f s (t s is)
told_ok P Q o (Err e) f t = tt

pub same_stands : (job : Job) (before : Named) (r after : Running) (log l : LogState) → SameParts r after → SameLog log l → (s : Store) → SinksStand job before log.past (notes_of r) s → SinksStand job before l.past (notes_of after) s
same_stands job before r after log l p q s k =
    subst (λ (n : Notes). SinksStand job before l.past n s) (sym (same_notes r after p)) (subst (λ (x : Past). SinksStand job before x (notes_of r) s) (sym q.past) k)

pub refused_stands : {T E : Type 0} (job : Job) (before : Named) (r after : Running) (log l : LogState) (o : Option Store) (x : Result T E) → OnErr x (SameParts r after) → OnErr x (SameLog log l) → Told o (SinksStand job before log.past (notes_of r)) → OnErr x (Told o (SinksStand job before l.past (notes_of after)))
refused_stands job before r after log l o (Ok x) p q t = tt
refused_stands job before r after log l o (Err e) p q t = told_same (SinksStand job before log.past (notes_of r)) (SinksStand job before l.past (notes_of after)) o o refl (same_stands job before r after log l p q) t

pub no_fault : (faults stops new_faults new_stops : ℕ) (took : Took) → IsNoFault took → FaultIs faults stops new_faults new_stops took
no_fault faults stops new_faults new_stops Changed h = tt
no_fault faults stops new_faults new_stops (Ignored why) h = tt
no_fault faults stops new_faults new_stops (Ended (Succeeded pairs)) h = tt
no_fault faults stops new_faults new_stops (Ended (SinkExists v)) h = tt
no_fault faults stops new_faults new_stops (Ended (AttemptsSpent t)) h = tt
no_fault faults stops new_faults new_stops (Ended (DeviceFault d)) h = absurd h
