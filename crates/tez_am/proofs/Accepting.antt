-- From the reads and the DAG file to a plan and a job; and that each is one.
use Rattle.std.proofs.Common.{◌≡◌, ◌⊎◌, ℕ, ◌≤◌, List, Option, Some, None, Result, Ok, Err, refl, inl, inr, ◌∙◌, sym, subst, ap}
use Rattle.tez_dag_json.specs.Due.{IsDue}
use Rattle.tez_dag_json.specs.declared.fault.DagFault.{DagFault}
use Rattle.tez_dag_json.proofs.Due.{one_due}
use Rattle.tez_ports.specs.Content.{Named, Told}
use Rattle.tez_meaning.specs.Jobs.{Job}
use Rattle.tez_am.specs.Accept.{Planned, and_then, Next, content, IsContent, dag_limit, dag_bytes, IsDagOf, IsDag, AfterDag, run_job, with_sources, IsJob}
use Rattle.tez_am.specs.Call.{Reads}
use Rattle.tez_am.specs.Cause.{Refusal}
use Rattle.tez_am.proofs.Publishing.{rose_later}
use Rattle.tez_am.specs.declared.status.Status.{Status}
use Rattle.tez_am.specs.declared.status.Status.TheVariants.{Usage, DagRefused, InputMissing, InputTooLarge, InputFault, NoMemory}

-- a refusal of one check that is one of the next
pub refusal_from : {A B : Type 0} (P : Named → Result A Status → Type 0) (Q : Named → Result B Status → Type 0) (reads : Reads) (s : Status)
    → ((m : Named) (r : Status) → P m (Err r) → Q m (Err r)) → Refusal P reads s → Refusal Q reads s
refusal_from P Q reads (DagRefused fault) step h = λ m t. step m (DagRefused fault) (h m t)
refusal_from P Q reads (InputMissing name) step h = λ m t. step m (InputMissing name) (h m t)
refusal_from P Q reads (InputTooLarge name) step h = λ m t. step m (InputTooLarge name) (h m t)
refusal_from P Q reads (InputFault name) step h = h
refusal_from P Q reads NoMemory step h = tt
refusal_from P Q reads _ step h = absurd h

-- ---- the DAG file

dag_at : (word bytes : List ℕ) (files : Named) (answer : Result Planned Status) → content word dag_limit files ≡ Ok bytes → IsDagOf bytes answer → IsDag (Some word) files answer
unfolding IsDag
dag_at word bytes files answer is due = rw is due

refused_at : (word : List ℕ) (files : Named) (r : Status) → content word dag_limit files ≡ Err r → IsDag (Some word) files (Err r)
unfolding IsDag
refused_at word files r is = rw is

pub dag_unread : (word : List ℕ) (reads : Reads) (s : Status) → Refusal (IsContent word dag_limit) reads s → Refusal (IsDag (Some word)) reads s
dag_unread word reads s h = refusal_from (IsContent word dag_limit) (IsDag (Some word)) reads s (refused_at word) h

-- the bytes are read through a slice of them

pub dag_read : (word bytes slice : List ℕ) (said : Planned) (files : Option Named) → Told files (λ m. content word dag_limit m ≡ Ok bytes) → slice ≡ bytes → IsDue slice (Ok said)
    → Told files (λ m. IsDag (Some word) m (Ok said))
dag_read word bytes slice said files told same due m t = dag_at word bytes m (Ok said) (told m t) (subst (λ b. IsDue b (Ok said)) same due)

pub dag_refused : (word bytes slice : List ℕ) (reads : Reads) (s : Status) → Told reads.files (λ m. content word dag_limit m ≡ Ok bytes) → slice ≡ bytes
    → (s ≡ NoMemory) ⊎ ((fault : DagFault) × (s ≡ DagRefused fault) × IsDue slice (Err fault)) → Refusal (IsDag (Some word)) reads s
dag_refused word bytes slice reads s told same is =
    let P : Status → Type 0 = λ r. Refusal (IsDag (Some word)) reads r in
    elim is [
      | inl short ↦ subst P (sym short) tt
      | inr it ↦ subst P (sym it.1) (λ m t. dag_at word bytes m (Err (DagRefused it.0)) (told m t) (subst (λ b. IsDue b (Err it.0)) same it.2))
    ]

-- ---- what comes after the DAG file

after_refused_at : {A : Type 0} (next : Named → Planned → Result A Status) (word : Option (List ℕ)) (m : Named) (r : Status) → IsDag word m (Err r) → AfterDag next word m (Err r)
after_refused_at next word m r is = record { dag = Err r; is = is; rest = refl }

pub after_unread : {A : Type 0} (next : Named → Planned → Result A Status) (word : Option (List ℕ)) (reads : Reads) (s : Status) → Refusal (IsDag word) reads s → Refusal (AfterDag next word) reads s
after_unread next word reads s h = refusal_from (IsDag word) (AfterDag next word) reads s (after_refused_at next word) h

pub after_at : {A : Type 0} (next : Named → Planned → Result A Status) (word : Option (List ℕ)) (said : Planned) (m : Named) (answer : Result A Status) → IsDag word m (Ok said) → answer ≡ next m said → AfterDag next word m answer
after_at next word said m answer is due = record { dag = Ok said; is = is; rest = due }

-- a refusal by reads that began later
pub later_refusal : {A B : Type 0} (P : Named → Result A Status → Type 0) (Q : Named → Result B Status → Type 0) (old mid : Option Named) (before between now : ℕ) (failed : List ℕ) → mid ≡ old → before ≤ between
    → ((m : Named) → old ≡ Some m → (r : Status) → P m (Err r) → Q m (Err r)) → (s : Status) → Refusal P (record { files = mid; before = between; now = now; failed = failed }) s
    → Refusal Q (record { files = old; before = before; now = now; failed = failed }) s
later_refusal {A} {B} P Q old mid before between now failed same later step s h = by s h where
  due : (r : Status) → ((m : Named) → mid ≡ Some m → P m (Err r)) → (m : Named) → old ≡ Some m → Q m (Err r)
  due r is m t = step m t r (is m (same ∙ t))

  by : (s : Status) → Refusal P (record { files = mid; before = between; now = now; failed = failed }) s → Refusal Q (record { files = old; before = before; now = now; failed = failed }) s
  by (DagRefused fault) h = due (DagRefused fault) h
  by (InputMissing n) h = due (InputMissing n) h
  by (InputTooLarge n) h = due (InputTooLarge n) h
  by (InputFault n) h = (rose_later _ _ _ later h.0, h.1)
  by NoMemory h = tt
  by _ h = absurd h

-- ---- the job

job_at : (word : Option (List ℕ)) (said : Planned) (m : Named) (answer : Result Job Status) → IsDag word m (Ok said) → with_sources m said.0 ≡ answer → IsJob word m answer
job_at word said m answer is due = after_at run_job word said m answer is (sym due)

pub job_read : (word : Option (List ℕ)) (said : Planned) (job : Job) (old mid : Option Named) → mid ≡ old → Told old (λ m. IsDag word m (Ok said)) → Told mid (λ m. with_sources m said.0 ≡ Ok job)
    → Told old (λ m. IsJob word m (Ok job))
job_read word said job old mid same is read m t = job_at word said m (Ok job) (is m t) (read m (same ∙ t))

pub job_unread : (word : Option (List ℕ)) (said : Planned) (old mid : Option Named) (before between now : ℕ) (failed : List ℕ) → mid ≡ old → before ≤ between → Told old (λ m. IsDag word m (Ok said))
    → (s : Status) → Refusal (λ m answer. with_sources m said.0 ≡ answer) (record { files = mid; before = between; now = now; failed = failed }) s
    → Refusal (IsJob word) (record { files = old; before = before; now = now; failed = failed }) s
job_unread word said old mid before between now failed same later is s h =
    later_refusal (λ m answer. with_sources m said.0 ≡ answer) (IsJob word) old mid before between now failed same later (λ m t r due. job_at word said m (Err r) (is m t) due) s h

-- ---- one answer is due

one_dag_of : (bytes : List ℕ) (a b : Result Planned Status) → IsDagOf bytes a → IsDagOf bytes b → a ≡ b
one_dag_of bytes (Ok x) (Ok y) ha hb = let h = one_due bytes (Ok x) (Ok y) ha hb in let same : x ≡ y = cc in ap Ok same
one_dag_of bytes (Ok x) (Err (DagRefused g)) ha hb = let h = one_due bytes (Ok x) (Err g) ha hb in cc
one_dag_of bytes (Ok x) (Err _) ha hb = absurd hb
one_dag_of bytes (Err (DagRefused f)) (Ok y) ha hb = let h = one_due bytes (Err f) (Ok y) ha hb in cc
one_dag_of bytes (Err (DagRefused f)) (Err (DagRefused g)) ha hb = let h = one_due bytes (Err f) (Err g) ha hb in let same : f ≡ g = cc in ap (λ e. Err (DagRefused e)) same
one_dag_of bytes (Err (DagRefused f)) (Err _) ha hb = absurd hb
one_dag_of bytes (Err _) b ha hb = absurd ha

pub one_dag : (word : Option (List ℕ)) (m : Named) (a b : Result Planned Status) → IsDag word m a → IsDag word m b → a ≡ b
unfolding IsDag
one_dag word m a b ha hb = by (dag_bytes word m) ha hb where
  by : (r : Result (List ℕ) Status) → Next r IsDagOf a → Next r IsDagOf b → a ≡ b
  by (Ok bytes) ha hb = one_dag_of bytes a b ha hb
  by (Err s) ha hb = ha ∙ sym hb

pub one_after : {A : Type 0} (next : Named → Planned → Result A Status) (word : Option (List ℕ)) (m : Named) (a b : Result A Status) → AfterDag next word m a → AfterDag next word m b → a ≡ b
one_after next word m a b ha hb = ha.rest ∙ ap (λ d. and_then d (next m)) (one_dag word m ha.dag hb.dag ha.is hb.is) ∙ sym hb.rest

pub one_job : (word : Option (List ℕ)) (m : Named) (a b : Result Job Status) → IsJob word m a → IsJob word m b → a ≡ b
one_job word m a b ha hb = one_after run_job word m a b ha hb

-- ---- by the words

pub no_dag : (word : Option (List ℕ)) (m : Named) → word ≡ None → IsDag word m (Err Usage)
unfolding IsDag
no_dag word m none = rw none

pub at_word : {A : Type 0} (P : Option (List ℕ) → Named → Result A Status → Type 0) (word : Option (List ℕ)) (file : List ℕ) (m : Named) (r : Result A Status) → word ≡ Some file → P (Some file) m r → P word m r
at_word P word file m r is h = subst (λ w. P w m r) (sym is) h
