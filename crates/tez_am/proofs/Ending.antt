-- How a call ends, from how its run ended and from what was said.
use Rattle.std.proofs.Common.{◌≡◌, ◌≢◌, ℕ, List, reverse, Option, Some, None, Result, Ok, Err, IfOk, IfErr, OnOk, refl, inl, inr, sym, subst, ap}
use Rattle.tez_ports.specs.Causes.{Rose}
use Rattle.tez_ports.specs.Content.{Named, Store, Told}
use Rattle.tez_conf.specs.declared.values.ConfValues.{ConfValues}
use Rattle.tez_events.specs.declared.Entry.{Entry}
use Rattle.tez_meaning.specs.Jobs.{Job}
use Rattle.tez_history.specs.History.{Past}
use Rattle.tez_sinks.specs.Sinks.{TasksWereStaged}
use Rattle.tez_world.specs.Lawful.{IsTrace}
use Rattle.tez_am.specs.Accept.{IsJob, IsAccepted, IsDag}
use Rattle.tez_am.specs.Call.{Stored, Writes, Call, Wrote, WrotePart}
use Rattle.tez_am.specs.Cause.{Refusal, ForJob, Cause, IsTextOf, Leaves, MayPublish, SaidNoMemory, Writing, HasStaged}
use Rattle.tez_am.specs.Publish.{publications, Publishes, RunCause}
use Rattle.tez_am.specs.Run.{HasText}
use Rattle.tez_am.specs.Say.{Said, answer_of, failure_text, status_of, text_of}
use Rattle.tez_am.specs.Answer.{TellsSinks}
use Rattle.tez_am.specs.Text.{spent_line, status_text}
use Rattle.tez_am.specs.Words.{dag_word}
use Rattle.tez_am.proofs.Accepting.{refusal_from, at_word}
use Rattle.tez_am.proofs.Publishing.{all_published}
use Rattle.tez_am.specs.declared.failure.Failure.{Failure}
use Rattle.tez_am.specs.declared.failure.Failure.TheVariants.{Because, Spent}
use Rattle.tez_steps.specs.declared.verdict.Device.TheVariants as device
use Rattle.tez_am.specs.declared.status.Status.{Status}
use Rattle.tez_am.specs.declared.status.Status.TheVariants.{Succeeded, Usage, DagRefused, InputMissing, InputTooLarge, InputFault, SinkExists, AttemptsSpent, DeviceFault, MeaningUndefined, OutFault, NoMemory}

-- P of the answer, from P of all that it may be
pub answered : (P : Status → Type 0) (status : Status) (text : List ℕ) (out : Writes) (answer : Status) → Said status text out answer
    → (Wrote text out → P status) → (status ≢ NoMemory → Rose out.before out.now → WrotePart text out → P OutFault) → (SaidNoMemory out → P NoMemory) → P answer
answered P status text out answer said whole part short = elim said [
  | inl all ↦ subst P (sym all.0) (whole all.1)
  | inr other ↦ elim other [ inl fault ↦ subst P (sym fault.0) (part fault.1 fault.2 fault.3) | inr memory ↦ subst P (sym memory.0) (short memory.1) ]
]

-- all that is said of an answer
pub record Ends (c : Call) (s : Status) : Type 0 where
  pub cause : Cause c s
  pub leaves : Leaves c s
  pub writing : Writing c s

-- the ends of an answer whose text was not written whole
ends_in_fault : (c : Call) (due : Status) (text : List ℕ) → MayPublish c → Cause c due → IsTextOf c due text → Rose c.out.before c.out.now → WrotePart text c.out → Ends c OutFault
unfolding Cause Leaves Writing
ends_in_fault c due text may cause is rose part = record { cause = rose; leaves = may; writing = record { due = due; cause = cause; text = text; is = is; part = part } }

ends_short : (c : Call) → MayPublish c → SaidNoMemory c.out → Ends c NoMemory
unfolding Cause Leaves Writing
ends_short c may short = record { cause = tt; leaves = may; writing = short }

-- ---- a refusal before the run

refused : (c : Call) → c.store.new ≡ c.store.old → (s : Status) → Refusal (IsAccepted c.words) c.reads s → Wrote (status_text s) c.out → Ends c s
unfolding Cause Leaves Writing
refused c same (DagRefused f) h wrote = record { cause = h; leaves = same; writing = (status_text (DagRefused f), refl, wrote) }
refused c same (InputMissing n) h wrote = record { cause = h; leaves = same; writing = (status_text (InputMissing n), refl, wrote) }
refused c same (InputTooLarge n) h wrote = record { cause = h; leaves = same; writing = (status_text (InputTooLarge n), refl, wrote) }
refused c same (InputFault n) h wrote = record { cause = h; leaves = same; writing = (status_text (InputFault n), refl, wrote) }
refused c same NoMemory h wrote = record { cause = tt; leaves = inl (ap publications same); writing = inl wrote }
refused c same _ h wrote = absurd h

refused_cause : (c : Call) (s : Status) → Refusal (IsAccepted c.words) c.reads s → Cause c s
unfolding Cause
refused_cause c (DagRefused f) h = h
refused_cause c (InputMissing n) h = h
refused_cause c (InputTooLarge n) h = h
refused_cause c (InputFault n) h = h
refused_cause c NoMemory h = tt
refused_cause c _ h = absurd h

refused_text : (c : Call) (s : Status) → s ≢ NoMemory → Refusal (IsAccepted c.words) c.reads s → IsTextOf c s (status_text s)
refused_text c (DagRefused f) other h = refl
refused_text c (InputMissing n) other h = refl
refused_text c (InputTooLarge n) other h = refl
refused_text c (InputFault n) other h = refl
refused_text c NoMemory other h = absurd (other refl)
refused_text c _ other h = absurd h

refusal_ends : (c : Call) → c.store.new ≡ c.store.old → (s answer : Status) → Refusal (IsAccepted c.words) c.reads s → Said s (status_text s) c.out answer → Ends c answer
refusal_ends c same s answer h said =
    let as_before : MayPublish c = inl (ap publications same) in
    answered (Ends c) s (status_text s) c.out answer said
    (refused c same s h)
    (λ other rose part. ends_in_fault c s (status_text s) as_before (refused_cause c s h) (refused_text c s other h) rose part)
    (ends_short c as_before)

-- ---- words that are no command

pub usage_ends : (c : Call) → dag_word c.words ≡ None → c.store.new ≡ c.store.old → (answer : Status) → Said Usage (status_text Usage) c.out answer → Ends c answer
unfolding Cause Leaves Writing
usage_ends c none same answer said =
    let as_before : MayPublish c = inl (ap publications same) in
    answered (Ends c) Usage (status_text Usage) c.out answer said
    (λ wrote. record { cause = none; leaves = same; writing = (status_text Usage, refl, wrote) })
    (λ other rose part. ends_in_fault c Usage (status_text Usage) as_before none refl rose part)
    (ends_short c as_before)

-- ---- a run

abbrev Ran : Call → Job → Type 0
Ran c job = Told c.reads.files (λ m. IsAccepted c.words m (Ok job))

ran_cause : (c : Call) (job : Job) → Ran c job → (s : Status) → RunCause job c.store s → Cause c s
unfolding Cause
ran_cause c job is (SinkExists n) h = ((λ m t. (job, is m t, h.1)), (λ s told m t. (job, is m t, h.2 s told)))
ran_cause c job is (AttemptsSpent vertex task) h = ((λ m t. (job, is m t, h.2)), (λ s told m t. (job, is m t, h.1 s told)))
ran_cause c job is (DeviceFault device.Store) h = (h.0, λ m t. (job, is m t, tt))
ran_cause c job is NoMemory h = tt
ran_cause c job is _ h = absurd h

ran_may_publish : (c : Call) (job : Job) → Ran c job → (s : Status) → RunCause job c.store s → MayPublish c
ran_may_publish c job is (SinkExists n) h = inl h.0
ran_may_publish c job is (AttemptsSpent vertex task) h = inl h.0
ran_may_publish c job is (DeviceFault device.Store) h = inr (λ m t. (job, is m t, h.1))
ran_may_publish c job is NoMemory h = inr (λ m t. (job, is m t, h))
ran_may_publish c job is _ h = absurd h

ran_leaves : (c : Call) (job : Job) → Ran c job → (s : Status) → RunCause job c.store s → Leaves c s
unfolding Leaves
ran_leaves c job is (SinkExists n) h = h.0
ran_leaves c job is (AttemptsSpent vertex task) h = h.0
ran_leaves c job is (DeviceFault device.Store) h = ran_may_publish c job is (DeviceFault device.Store) h
ran_leaves c job is NoMemory h = ran_may_publish c job is NoMemory h
ran_leaves c job is _ h = absurd h

-- the text of a failure, and what it is to have been written

failed_text : (c : Call) (job : Job) → Ran c job → (f : Failure) → HasText job f → status_of f ≢ NoMemory → RunCause job c.store (status_of f) → IsTextOf c (status_of f) (failure_text f)
failed_text c job is (Because (SinkExists n)) text other h = refl
failed_text c job is (Because (DeviceFault device.Store)) text other h = refl
failed_text c job is (Because NoMemory) text other h = absurd (other refl)
failed_text c job is (Because (AttemptsSpent vertex task)) text other h = absurd text
failed_text c job is (Because _) text other h = absurd h
failed_text c job is (Spent vertex task name) text other h = λ m t. (job, is m t, ap (λ n. spent_line n task) text)

failed_writes : (c : Call) (job : Job) → Ran c job → (f : Failure) → HasText job f → RunCause job c.store (status_of f) → Wrote (failure_text f) c.out → Writing c (status_of f)
unfolding Writing
failed_writes c job is (Because (SinkExists n)) text h wrote = (status_text (SinkExists n), refl, wrote)
failed_writes c job is (Because (DeviceFault device.Store)) text h wrote = (status_text (DeviceFault device.Store), refl, wrote)
failed_writes c job is (Because NoMemory) text h wrote = inl wrote
failed_writes c job is (Because (AttemptsSpent vertex task)) text h wrote = absurd text
failed_writes c job is (Because _) text h wrote = absurd h
failed_writes c job is (Spent vertex task name) text h wrote = (spent_line name task, (λ m t. (job, is m t, ap (λ n. spent_line n task) text)), wrote)

failure_ends : (c : Call) (job : Job) → Ran c job → (f : Failure) (answer : Status) → RunCause job c.store (status_of f) → HasText job f → Said (status_of f) (failure_text f) c.out answer → Ends c answer
failure_ends c job is f answer h text said =
    let cause = ran_cause c job is (status_of f) h in
    let may = ran_may_publish c job is (status_of f) h in
    answered (Ends c) (status_of f) (failure_text f) c.out answer said
    (λ wrote. record { cause = cause; leaves = ran_leaves c job is (status_of f) h; writing = failed_writes c job is f text h wrote })
    (λ other rose part. ends_in_fault c (status_of f) (failure_text f) may cause (failed_text c job is f text other h) rose part)
    (ends_short c may)

success_ends : (c : Call) (job : Job) → Ran c job → (text : List ℕ) (answer : Status) → TellsSinks c.store.new job text → Publishes job c.store → Said Succeeded text c.out answer → Ends c answer
unfolding Cause Leaves Writing
success_ends c job is text answer tells done said =
    let for_job : ForJob c (λ j. Publishes j c.store) = λ m t. (job, is m t, done) in
    let telling : ForJob c (λ j. TellsSinks c.store.new j text) = λ m t. (job, is m t, tells) in
    let may : MayPublish c = inr (λ m t. (job, is m t, all_published job c.store done)) in
    answered (Ends c) Succeeded text c.out answer said
    (λ wrote. record { cause = for_job; leaves = for_job; writing = (text, telling, wrote) })
    (λ other rose part. ends_in_fault c Succeeded text may for_job telling rose part)
    (ends_short c may)

-- ---- by the words

by_words : (c : Call) (word : List ℕ) → dag_word c.words ≡ Some word → (s : Status) → Refusal (IsJob (Some word)) c.reads s → Refusal (IsAccepted c.words) c.reads s
by_words c word is s h = refusal_from (IsJob (Some word)) (IsAccepted c.words) c.reads s (λ m r due. at_word IsJob (dag_word c.words) word m (Err r) is due) h

pub refused_ends : (c : Call) (word : List ℕ) → dag_word c.words ≡ Some word → c.store.new ≡ c.store.old → (s answer : Status) → Refusal (IsJob (Some word)) c.reads s
    → Said s (status_text s) c.out answer → Ends c answer
refused_ends c word is same s answer h said = refusal_ends c same s answer (by_words c word is s h) said

pub run_ends : (c : Call) (word : List ℕ) (job : Job) → dag_word c.words ≡ Some word → Told c.reads.files (λ m. IsJob (Some word) m (Ok job)) → (ended : Result (List ℕ) Failure) (answer : Status)
    → IfOk ended (TellsSinks c.store.new job) → OnOk ended (Publishes job c.store) → IfErr ended (λ f. RunCause job c.store (status_of f)) → IfErr ended (HasText job)
    → Said (answer_of ended) (text_of ended) c.out answer → Ends c answer
run_ends c word job is at (Ok text) answer tells done cause names said = success_ends c job (λ m t. at_word IsJob (dag_word c.words) word m (Ok job) is (at m t)) text answer tells done said
run_ends c word job is at (Err f) answer tells done cause names said = failure_ends c job (λ m t. at_word IsJob (dag_word c.words) word m (Ok job) is (at m t)) f answer cause names said

-- what was staged at a success

staged_short : (store : Stored) (job : Job) (past : Past) (s : Status) → RunCause job store s → HasStaged store.new s job past
staged_short store job past Succeeded h = absurd h
staged_short store job past Usage h = tt
staged_short store job past (DagRefused f) h = tt
staged_short store job past (InputMissing n) h = tt
staged_short store job past (InputTooLarge n) h = tt
staged_short store job past (InputFault n) h = tt
staged_short store job past (SinkExists n) h = tt
staged_short store job past (AttemptsSpent vertex task) h = tt
staged_short store job past (DeviceFault d) h = tt
staged_short store job past (MeaningUndefined n) h = tt
staged_short store job past OutFault h = tt
staged_short store job past NoMemory h = tt

pub run_stages : (store : Stored) (out : Writes) (job : Job) (past : Past) (ended : Result (List ℕ) Failure) (answer : Status) → OnOk ended (Told store.new (λ s. TasksWereStaged job past s.stage_calls)) → IfErr ended (λ f. RunCause job store (status_of f))
    → Said (answer_of ended) (text_of ended) out answer → HasStaged store.new answer job past
run_stages store out job past (Ok text) answer staged cause said = answered (λ s. HasStaged store.new s job past) Succeeded text out answer said (λ wrote. staged) (λ other rose part. tt) (λ short. tt)
run_stages store out job past (Err f) answer staged cause said = answered (λ s. HasStaged store.new s job past) (status_of f) (failure_text f) out answer said (λ wrote. staged_short store job past (status_of f) cause) (λ other rose part. tt) (λ short. tt)

pub run_traced : (words : List (List ℕ)) (files : Option Named) (store : Option Store) (answer : Status) (word : List ℕ) (job : Job) (conf : ConfValues) (entries : List Entry) → dag_word words ≡ Some word → Told files (λ m. IsJob (Some word) m (Ok job)) → Told files (λ m. IsDag (Some word) m (Ok (job.plan, conf)))
    → IsTrace job conf (reverse entries) → HasStaged store answer job (reverse entries)
    → Told files (λ m. (j : Job) × (c : ConfValues) × IsAccepted words m (Ok j) × IsDag (dag_word words) m (Ok (j.plan, c)) × IsTrace j c (reverse entries) × HasStaged store answer j (reverse entries))
run_traced words files store answer word job conf entries is at said trace staged = λ m t. (job, conf, at_word IsJob (dag_word words) word m (Ok job) is (at m t), at_word IsDag (dag_word words) word m (Ok (job.plan, conf)) is (said m t), trace, staged)
