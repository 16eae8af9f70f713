-- An answer whose cause holds is the one that is due.
use Rattle.std.proofs.Common.{◌≡◌, ℕ, Bool, true, List, Option, Some, None, Ok, Err, refl, inl, inr, ◌∙◌, sym, ap}
use Rattle.tez_lists.proofs.Cases.{both}
use Rattle.tez_ports.specs.Content.{Named, Store}
use Rattle.tez_plan.specs.Dag.{vertex}
use Rattle.tez_meaning.specs.Jobs.{Job}
use Rattle.tez_meaning.specs.Value.{bad, IsDefined}
use Rattle.tez_am.specs.Accept.{IsAccepted}
use Rattle.tez_am.specs.Call.{Call}
use Rattle.tez_am.specs.Cause.{Cause}
use Rattle.tez_am.specs.Publish.{first_taken}
use Rattle.tez_am.specs.Rows.{IsAnswerOfReads, IsAnswerOfRun, IsAnswerOfSpent, KeepsRows}
use Rattle.tez_am.specs.Words.{dag_word}
use Rattle.tez_am.proofs.Accepting.{no_dag, one_job}
use Rattle.tez_steps.specs.declared.verdict.Device.TheVariants as device
use Rattle.tez_am.specs.declared.status.Status.{Status}
use Rattle.tez_am.specs.declared.status.Status.TheVariants.{Succeeded, Usage, DagRefused, InputMissing, InputTooLarge, InputFault, SinkExists, AttemptsSpent, DeviceFault, MeaningUndefined, OutFault, NoMemory}

no_command : (words : List (List ℕ)) (m : Named) → dag_word words ≡ None → IsAccepted words m (Err Usage)
no_command words m none = record { dag = Err Usage; is = no_dag (dag_word words) m none; rest = refl }

not_both : (words : List (List ℕ)) (m : Named) (job : Job) (refusal : Status) → IsAccepted words m (Ok job) → IsAccepted words m (Err refusal) → ⊥
not_both words m job refusal a b = let h = one_job (dag_word words) m (Ok job) (Err refusal) a b in cc

one_refusal : (words : List (List ℕ)) (m : Named) (a b : Status) → IsAccepted words m (Err a) → IsAccepted words m (Err b) → a ≡ b
one_refusal words m a b h k = let e = one_job (dag_word words) m (Err a) (Err b) h k in cc

same_job : (words : List (List ℕ)) (m : Named) (a b : Job) → IsAccepted words m (Ok a) → IsAccepted words m (Ok b) → a ≡ b
same_job words m a b h k = let e = one_job (dag_word words) m (Ok a) (Ok b) h k in cc

-- the same of what was published before, and of bad records
taken_by : (words : List (List ℕ)) (m : Named) (publications : Named) (a b : Job) (x y : Option (List ℕ)) → IsAccepted words m (Ok a) → IsAccepted words m (Ok b)
    → first_taken a.plan publications ≡ x → first_taken b.plan publications ≡ y → x ≡ y
taken_by words m publications a b x y h k is at = sym is ∙ ap (λ j. first_taken j.plan publications) (same_job words m a b h k) ∙ at

bad_by : (words : List (List ℕ)) (m : Named) (a b : Job) (v : ℕ) (x y : Bool) → IsAccepted words m (Ok a) → IsAccepted words m (Ok b) → bad a v ≡ x → bad b v ≡ y → x ≡ y
bad_by words m a b v x y h k is at = sym is ∙ ap (λ j. bad j v) (same_job words m a b h k) ∙ at

row_refused : (c : Call) (m : Named) → c.reads.files ≡ Some m → (refusal : Status) → IsAccepted c.words m (Err refusal) → (answer : Status) → Cause c answer → IsAnswerOfReads refusal answer
unfolding Cause
row_refused c m t refusal due Succeeded h = let j = h m t in absurd (not_both c.words _ _ _ j.1 due)
row_refused c m t refusal due Usage h = inl (inl (one_refusal c.words _ _ _ (no_command c.words m h) due))
row_refused c m t refusal due (DagRefused f) h = inl (inl (one_refusal c.words _ _ _ (h m t) due))
row_refused c m t refusal due (InputMissing n) h = inl (inl (one_refusal c.words _ _ _ (h m t) due))
row_refused c m t refusal due (InputTooLarge n) h = inl (inl (one_refusal c.words _ _ _ (h m t) due))
row_refused c m t refusal due (InputFault n) h = inr (n, refl)
row_refused c m t refusal due (SinkExists n) h = let j = h.0 m t in absurd (not_both c.words _ _ _ j.1 due)
row_refused c m t refusal due (AttemptsSpent v n) h = let j = h.0 m t in absurd (not_both c.words _ _ _ j.1 due)
row_refused c m t refusal due (DeviceFault device.Store) h = let j = h.1 m t in absurd (not_both c.words _ _ _ j.1 due)
row_refused c m t refusal due (DeviceFault device.Disk) h = absurd h
row_refused c m t refusal due (MeaningUndefined n) h = absurd h
row_refused c m t refusal due OutFault h = inl (inr (inl refl))
row_refused c m t refusal due NoMemory h = inl (inr (inr refl))

row_exists : (c : Call) (m : Named) → c.reads.files ≡ Some m → (job : Job) → IsAccepted c.words m (Ok job) → (s : Store) → c.store.old ≡ Some s → (name : List ℕ) → first_taken job.plan s.publications ≡ Some name
    → (answer : Status) → Cause c answer → IsAnswerOfRun (SinkExists name) answer
unfolding Cause
row_exists c m t job is s told name there Succeeded h = let j = h m t in let e = taken_by c.words _ s.publications job j.0 (Some name) None is j.1 there (j.2.not_before s told) in cc
row_exists c m t job is s told name there Usage h = absurd (not_both c.words _ _ _ is (no_command c.words m h))
row_exists c m t job is s told name there (DagRefused f) h = absurd (not_both c.words _ _ _ is (h m t))
row_exists c m t job is s told name there (InputMissing n) h = absurd (not_both c.words _ _ _ is (h m t))
row_exists c m t job is s told name there (InputTooLarge n) h = absurd (not_both c.words _ _ _ is (h m t))
row_exists c m t job is s told name there (InputFault n) h = inl (inr (n, refl))
row_exists c m t job is s told name there (SinkExists n) h = let j = h.1 s told m t in let e = taken_by c.words _ s.publications j.0 job (Some n) (Some name) j.1 is j.2 there in let same : n ≡ name = cc in inl (inl (inl (ap SinkExists same)))
row_exists c m t job is s told name there (AttemptsSpent v n) h = let j = h.1 s told m t in let e = taken_by c.words _ s.publications job j.0 (Some name) None is j.1 there j.2 in cc
row_exists c m t job is s told name there (DeviceFault device.Store) h = inr refl
row_exists c m t job is s told name there (DeviceFault device.Disk) h = absurd h
row_exists c m t job is s told name there (MeaningUndefined n) h = absurd h
row_exists c m t job is s told name there OutFault h = inl (inl (inr (inl refl)))
row_exists c m t job is s told name there NoMemory h = inl (inl (inr (inr refl)))

row_spent : (c : Call) (m : Named) → c.reads.files ≡ Some m → (job : Job) → IsAccepted c.words m (Ok job) → (s : Store) → c.store.old ≡ Some s → first_taken job.plan s.publications ≡ None → (v : ℕ) → bad job v ≡ true
    → (answer : Status) → Cause c answer → IsAnswerOfSpent job answer
unfolding Cause
row_spent c m t job is s told free v worse Succeeded h = let j = h m t in absurd (both (sym (bad_by c.words _ job j.0 v true (bad j.0 v) is j.1 worse refl)) (j.2.defined v))
row_spent c m t job is s told free v worse Usage h = absurd (not_both c.words _ _ _ is (no_command c.words m h))
row_spent c m t job is s told free v worse (DagRefused f) h = absurd (not_both c.words _ _ _ is (h m t))
row_spent c m t job is s told free v worse (InputMissing n) h = absurd (not_both c.words _ _ _ is (h m t))
row_spent c m t job is s told free v worse (InputTooLarge n) h = absurd (not_both c.words _ _ _ is (h m t))
row_spent c m t job is s told free v worse (InputFault n) h = (vertex v, 0, worse, inl (inr (n, refl)))
row_spent c m t job is s told free v worse (SinkExists n) h = let j = h.1 s told m t in let e = taken_by c.words _ s.publications j.0 job (Some n) None j.1 is j.2 free in cc
row_spent c m t job is s told free v worse (AttemptsSpent w n) h = let j = h.0 m t in (w, n, ap (λ x. bad x w.0) (same_job c.words _ job j.0 is j.1) ∙ j.2, inl (inl (inl refl)))
row_spent c m t job is s told free v worse (DeviceFault device.Store) h = (vertex v, 0, worse, inr refl)
row_spent c m t job is s told free v worse (DeviceFault device.Disk) h = absurd h
row_spent c m t job is s told free v worse (MeaningUndefined n) h = absurd h
row_spent c m t job is s told free v worse OutFault h = (vertex v, 0, worse, inl (inl (inr (inl refl))))
row_spent c m t job is s told free v worse NoMemory h = (vertex v, 0, worse, inl (inl (inr (inr refl))))

row_succeeds : (c : Call) (m : Named) → c.reads.files ≡ Some m → (job : Job) → IsAccepted c.words m (Ok job) → (s : Store) → c.store.old ≡ Some s → first_taken job.plan s.publications ≡ None → IsDefined job
    → (answer : Status) → Cause c answer → IsAnswerOfRun Succeeded answer
unfolding Cause
row_succeeds c m t job is s told free good Succeeded h = inl (inl (inl refl))
row_succeeds c m t job is s told free good Usage h = absurd (not_both c.words _ _ _ is (no_command c.words m h))
row_succeeds c m t job is s told free good (DagRefused f) h = absurd (not_both c.words _ _ _ is (h m t))
row_succeeds c m t job is s told free good (InputMissing n) h = absurd (not_both c.words _ _ _ is (h m t))
row_succeeds c m t job is s told free good (InputTooLarge n) h = absurd (not_both c.words _ _ _ is (h m t))
row_succeeds c m t job is s told free good (InputFault n) h = inl (inr (n, refl))
row_succeeds c m t job is s told free good (SinkExists n) h = let j = h.1 s told m t in let e = taken_by c.words _ s.publications j.0 job (Some n) None j.1 is j.2 free in cc
row_succeeds c m t job is s told free good (AttemptsSpent v n) h = let j = h.0 m t in absurd (both (sym (bad_by c.words _ j.0 job v.0 true (bad job v.0) j.1 is j.2 refl)) (good v.0))
row_succeeds c m t job is s told free good (DeviceFault device.Store) h = inr refl
row_succeeds c m t job is s told free good (DeviceFault device.Disk) h = absurd h
row_succeeds c m t job is s told free good (MeaningUndefined n) h = absurd h
row_succeeds c m t job is s told free good OutFault h = inl (inl (inr (inl refl)))
row_succeeds c m t job is s told free good NoMemory h = inl (inl (inr (inr refl)))

pub rows_from_cause : (c : Call) (answer : Status) → Cause c answer → (m : Named) → c.reads.files ≡ Some m → KeepsRows c.words m c.store.old answer
rows_from_cause c answer h m t = record {
  refused = λ refusal due. row_refused c m t refusal due answer h;
  exists = λ job is s told name there. row_exists c m t job is s told name there answer h;
  spent = λ job is s told free v worse. row_spent c m t job is s told free v worse answer h;
  succeeds = λ job is s told free good. row_succeeds c m t job is s told free good answer h;
}
