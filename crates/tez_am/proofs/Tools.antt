-- How a call of a tool ends, from what its check gave and from what was said.
use Rattle.std.proofs.Common.{◌≡◌, ◌⊎◌, ℕ, List, Option, Some, None, Result, Ok, Err, IfOk, IfErr, refl, inl, inr, ◌∙◌, sym, ap, subst}
use Rattle.tez_ports.specs.Content.{Named, Told}
use Rattle.tez_am.specs.Accept.{AfterDag, IsDag}
use Rattle.tez_am.specs.Call.{Writes, Wrote}
use Rattle.tez_am.specs.Cause.{IsRefused, Refusal}
use Rattle.tez_am.specs.Mean.{Checks, Means}
use Rattle.tez_am.specs.Rows.{IsAnswerOfReads}
use Rattle.tez_am.specs.Say.{Said, answer_of, text_of}
use Rattle.tez_am.specs.Text.{status_text}
use Rattle.tez_am.specs.Tool.{ToolCall, checked, meaning_of, IsDueFor, IsToolDue, ToolRefusal, IsText, IsUsage, ToolCause, ToolLeaves, KeepsToolRows}
use Rattle.tez_am.specs.Words.{check_word, meaning_word}
use Rattle.tez_am.proofs.Accepting.{refusal_from, one_after}
use Rattle.tez_am.proofs.Ending.{answered}
use Rattle.tez_am.specs.declared.failure.Failure.{Failure}
use Rattle.tez_am.specs.declared.failure.Failure.TheVariants.{Because}
use Rattle.tez_am.specs.declared.status.Status.{Status}
use Rattle.tez_am.specs.declared.status.Status.TheVariants.{Succeeded, Usage, DagRefused, InputMissing, InputTooLarge, InputFault, SinkExists, AttemptsSpent, DeviceFault, MeaningUndefined, OutFault, NoMemory}

-- ---- what is due is one

one_due_for : (check other : Option (List ℕ)) (m : Named) (a b : Result (List ℕ) Status) → IsDueFor check other m a → IsDueFor check other m b → a ≡ b
one_due_for (Some word) other m a b h k = one_after checked (Some word) m a b h k
one_due_for None (Some word) m a b h k = one_after meaning_of (Some word) m a b h k
one_due_for None None m a b h k = h ∙ sym k

one_due : (words : List (List ℕ)) (m : Named) (a b : Result (List ℕ) Status) → IsToolDue words m a → IsToolDue words m b → a ≡ b
unfolding IsToolDue
one_due words m a b h k = one_due_for (check_word words) (meaning_word words) m a b h k

-- by the words

check_due : (words : List (List ℕ)) (word : List ℕ) (m : Named) (r : Result (List ℕ) Status) → check_word words ≡ Some word → AfterDag checked (Some word) m r → IsToolDue words m r
unfolding IsToolDue
check_due words word m r is h = subst (λ w. IsDueFor w (meaning_word words) m r) (sym is) h

meaning_due : (words : List (List ℕ)) (word : List ℕ) (m : Named) (r : Result (List ℕ) Status) → check_word words ≡ None → meaning_word words ≡ Some word → AfterDag meaning_of (Some word) m r → IsToolDue words m r
unfolding IsToolDue
meaning_due words word m r none is h = subst (λ w. IsDueFor w (meaning_word words) m r) (sym none) (subst (λ w. IsDueFor None w m r) (sym is) h)

usage_due : (words : List (List ℕ)) (m : Named) → IsUsage words → IsToolDue words m (Err Usage)
unfolding IsToolDue
usage_due words m none = subst (λ w. IsDueFor w (meaning_word words) m (Err Usage)) (sym none.0) (subst (λ w. IsDueFor None w m (Err Usage)) (sym none.1) refl)

-- ---- how it ends

pub record ToolEnds (c : ToolCall) (s : Status) : Type 0 where
  pub cause : ToolCause c s
  pub leaves : ToolLeaves c s

-- a refusal, where it is due

abbrev Due : ToolCall → Status → Type 0
Due c s = Refusal (IsToolDue c.words) c.reads s ⊎ ((name : List ℕ) × (s ≡ MeaningUndefined name) × IsRefused (IsToolDue c.words) c.reads s)

refused_cause : (c : ToolCall) (s : Status) → Due c s → ToolCause c s
unfolding ToolCause
refused_cause c (DagRefused f) (inl h) = h
refused_cause c (InputMissing n) (inl h) = h
refused_cause c (InputTooLarge n) (inl h) = h
refused_cause c (InputFault n) (inl h) = h
refused_cause c NoMemory (inl h) = tt
refused_cause c _ (inl h) = absurd h
refused_cause c s (inr h) = subst (ToolCause c) (sym h.1) (subst (IsRefused (IsToolDue c.words) c.reads) h.1 h.2)

refused_leaves : (c : ToolCall) (s : Status) → Due c s → Wrote (status_text s) c.out → ToolLeaves c s
unfolding ToolLeaves
refused_leaves c (DagRefused f) (inl h) wrote = wrote
refused_leaves c (InputMissing n) (inl h) wrote = wrote
refused_leaves c (InputTooLarge n) (inl h) wrote = wrote
refused_leaves c (InputFault n) (inl h) wrote = wrote
refused_leaves c NoMemory (inl h) wrote = inl wrote
refused_leaves c _ (inl h) wrote = absurd h
refused_leaves c s (inr h) wrote = subst (ToolLeaves c) (sym h.1) (subst (λ r. Wrote (status_text r) c.out) h.1 wrote)

refusal_ends : (c : ToolCall) (s answer : Status) → Due c s → Said s (status_text s) c.out answer → ToolEnds c answer
unfolding ToolCause ToolLeaves
refusal_ends c s answer h said =
    let cause = refused_cause c s h in
    answered (ToolEnds c) s (status_text s) c.out answer said
    (λ wrote. record { cause = cause; leaves = refused_leaves c s h wrote })
    (λ other rose part. record { cause = rose; leaves = inr (s, other, cause, part) })
    (λ short. record { cause = tt; leaves = short })

-- words that are no command

pub usage_ends : (c : ToolCall) → check_word c.words ≡ None → meaning_word c.words ≡ None → (answer : Status) → Said Usage (status_text Usage) c.out answer → ToolEnds c answer
unfolding ToolCause ToolLeaves
usage_ends c no_check no_meaning answer said =
    answered (ToolEnds c) Usage (status_text Usage) c.out answer said
    (λ wrote. record { cause = (no_check, no_meaning); leaves = wrote })
    (λ other rose part. record { cause = rose; leaves = inr (Usage, other, (no_check, no_meaning), part) })
    (λ short. record { cause = tt; leaves = short })

-- a text

text_ends : (c : ToolCall) (text : List ℕ) (answer : Status) → IsText text → Told c.reads.files (λ m. IsToolDue c.words m (Ok text)) → Said Succeeded text c.out answer → ToolEnds c answer
unfolding ToolCause ToolLeaves
text_ends c text answer kind due said =
    answered (ToolEnds c) Succeeded text c.out answer said
    (λ wrote. record { cause = record { text = text; kind = kind; due = due; so = tt }; leaves = record { text = text; kind = kind; due = due; so = wrote } })
    (λ other rose part. record { cause = rose; leaves = inl (record { text = text; kind = kind; due = due; so = part }) })
    (λ short. record { cause = tt; leaves = short })

-- ---- a check

pub check_ends : (c : ToolCall) (word text : List ℕ) → check_word c.words ≡ Some word → Checks (Some word) c.reads.files text → (answer : Status) → Said Succeeded text c.out answer → ToolEnds c answer
check_ends c word text is h answer said = text_ends c text answer (inl (h.said, h.valid, h.is)) (λ m t. check_due c.words word m (Ok text) is (record { dag = Ok h.said; is = h.due m t; rest = ap Ok h.is })) said

check_refused : (c : ToolCall) (word : List ℕ) → check_word c.words ≡ Some word → (s : Status) → Refusal (IsDag (Some word)) c.reads s → Due c s
check_refused c word is s h = inl (refusal_from (IsDag (Some word)) (IsToolDue c.words) c.reads s (λ m r due. check_due c.words word m (Err r) is (record { dag = Err r; is = due; rest = refl })) h)

pub check_refusal_ends : (c : ToolCall) (word : List ℕ) → check_word c.words ≡ Some word → (s answer : Status) → Refusal (IsDag (Some word)) c.reads s → Said s (status_text s) c.out answer → ToolEnds c answer
check_refusal_ends c word is s answer h said = refusal_ends c s answer (check_refused c word is s h) said

-- ---- a meaning

pub meaning_ends : (c : ToolCall) (word text : List ℕ) → check_word c.words ≡ None → meaning_word c.words ≡ Some word → Means (Some word) c.reads.files text → (answer : Status) → Said Succeeded text c.out answer → ToolEnds c answer
meaning_ends c word text none is h answer said = text_ends c text answer (inr (h.job, h.valid, h.defined, h.is)) (λ m t. meaning_due c.words word m (Ok text) none is (h.due m t)) said

meaning_refused : (c : ToolCall) (word : List ℕ) → check_word c.words ≡ None → meaning_word c.words ≡ Some word → (s : Status) → ToolRefusal (AfterDag meaning_of (Some word)) c.reads s → Due c s
meaning_refused c word none is s (inl h) = inl (refusal_from (AfterDag meaning_of (Some word)) (IsToolDue c.words) c.reads s (λ m r due. meaning_due c.words word m (Err r) none is due) h)
meaning_refused c word none is s (inr h) = inr (h.0, h.1, λ m t. meaning_due c.words word m (Err s) none is (h.2 m t))

pub meaning_refusal_ends : (c : ToolCall) (word : List ℕ) → check_word c.words ≡ None → meaning_word c.words ≡ Some word → (s answer : Status) → ToolRefusal (AfterDag meaning_of (Some word)) c.reads s
    → Said s (status_text s) c.out answer → ToolEnds c answer
meaning_refusal_ends c word none is s answer h said = refusal_ends c s answer (meaning_refused c word none is s h) said

-- ---- each by what it gave

-- what was said of an answer that is this one
said_of : (out : Writes) (answer : Status) (ended due : Result (List ℕ) Failure) → ended ≡ due → Said (answer_of ended) (text_of ended) out answer → Said (answer_of due) (text_of due) out answer
said_of out answer ended due is said = subst (λ e. Said (answer_of e) (text_of e) out answer) is said

pub checked_ends : (c : ToolCall) (word : List ℕ) (gave : Result (List ℕ) Status) (ended : Result (List ℕ) Failure) (answer : Status) → check_word c.words ≡ Some word
    → IfOk gave (Checks (Some word) c.reads.files) → IfErr gave (Refusal (IsDag (Some word)) c.reads)
    → IfOk gave (λ text. ended ≡ Ok text) → IfErr gave (λ s. ended ≡ Err (Because s)) → Said (answer_of ended) (text_of ended) c.out answer → ToolEnds c answer
checked_ends c word (Ok text) ended answer is checks refusal ok err said = check_ends c word text is checks answer (said_of c.out answer ended (Ok text) ok said)
checked_ends c word (Err s) ended answer is checks refusal ok err said = check_refusal_ends c word is s answer refusal (said_of c.out answer ended (Err (Because s)) err said)

pub meant_ends : (c : ToolCall) (word : List ℕ) (gave : Result (List ℕ) Status) (ended : Result (List ℕ) Failure) (answer : Status) → check_word c.words ≡ None → meaning_word c.words ≡ Some word
    → IfOk gave (Means (Some word) c.reads.files) → IfErr gave (ToolRefusal (AfterDag meaning_of (Some word)) c.reads)
    → IfOk gave (λ text. ended ≡ Ok text) → IfErr gave (λ s. ended ≡ Err (Because s)) → Said (answer_of ended) (text_of ended) c.out answer → ToolEnds c answer
meant_ends c word (Ok text) ended answer none is means refusal ok err said = meaning_ends c word text none is means answer (said_of c.out answer ended (Ok text) ok said)
meant_ends c word (Err s) ended answer none is means refusal ok err said = meaning_refusal_ends c word none is s answer refusal (said_of c.out answer ended (Err (Because s)) err said)

-- ---- the rows

one_refusal : (words : List (List ℕ)) (m : Named) (a b : Status) → IsToolDue words m (Err a) → IsToolDue words m (Err b) → a ≡ b
one_refusal words m a b h k = let e = one_due words m (Err a) (Err b) h k in cc

not_both : (words : List (List ℕ)) (m : Named) (text : List ℕ) (refusal : Status) → IsToolDue words m (Ok text) → IsToolDue words m (Err refusal) → ⊥
not_both words m text refusal a b = let h = one_due words m (Ok text) (Err refusal) a b in cc

row_refused : (c : ToolCall) (m : Named) → c.reads.files ≡ Some m → (refusal : Status) → IsToolDue c.words m (Err refusal) → (answer : Status) → ToolCause c answer → IsAnswerOfReads refusal answer
unfolding ToolCause
row_refused c m t refusal due Succeeded h = absurd (not_both c.words _ _ _ (h.due m t) due)
row_refused c m t refusal due Usage h = inl (inl (one_refusal c.words _ _ _ (usage_due c.words m h) due))
row_refused c m t refusal due (DagRefused f) h = inl (inl (one_refusal c.words _ _ _ (h m t) due))
row_refused c m t refusal due (InputMissing n) h = inl (inl (one_refusal c.words _ _ _ (h m t) due))
row_refused c m t refusal due (InputTooLarge n) h = inl (inl (one_refusal c.words _ _ _ (h m t) due))
row_refused c m t refusal due (InputFault n) h = inr (n, refl)
row_refused c m t refusal due (SinkExists n) h = absurd h
row_refused c m t refusal due (AttemptsSpent v n) h = absurd h
row_refused c m t refusal due (DeviceFault d) h = absurd h
row_refused c m t refusal due (MeaningUndefined n) h = inl (inl (one_refusal c.words _ _ _ (h m t) due))
row_refused c m t refusal due OutFault h = inl (inr (inl refl))
row_refused c m t refusal due NoMemory h = inl (inr (inr refl))

row_succeeds : (c : ToolCall) (m : Named) → c.reads.files ≡ Some m → (text : List ℕ) → IsToolDue c.words m (Ok text) → (answer : Status) → ToolCause c answer → IsAnswerOfReads Succeeded answer
unfolding ToolCause
row_succeeds c m t text is Succeeded h = inl (inl refl)
row_succeeds c m t text is Usage h = absurd (not_both c.words _ _ _ is (usage_due c.words m h))
row_succeeds c m t text is (DagRefused f) h = absurd (not_both c.words _ _ _ is (h m t))
row_succeeds c m t text is (InputMissing n) h = absurd (not_both c.words _ _ _ is (h m t))
row_succeeds c m t text is (InputTooLarge n) h = absurd (not_both c.words _ _ _ is (h m t))
row_succeeds c m t text is (InputFault n) h = inr (n, refl)
row_succeeds c m t text is (SinkExists n) h = absurd h
row_succeeds c m t text is (AttemptsSpent v n) h = absurd h
row_succeeds c m t text is (DeviceFault d) h = absurd h
row_succeeds c m t text is (MeaningUndefined n) h = absurd (not_both c.words _ _ _ is (h m t))
row_succeeds c m t text is OutFault h = inl (inr (inl refl))
row_succeeds c m t text is NoMemory h = inl (inr (inr refl))

pub rows_from_cause : (c : ToolCall) (answer : Status) → ToolCause c answer → (m : Named) → c.reads.files ≡ Some m → KeepsToolRows c.words m answer
rows_from_cause c answer h m t = record {
  refused = λ refusal due. row_refused c m t refusal due answer h;
  succeeds = λ text is. row_succeeds c m t text is answer h;
}
