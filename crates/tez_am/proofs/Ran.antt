-- What a run came to, from its first moment to its last.
--     stands_first                where nothing was done, the store stands
--     success_publishes           a success published each sink once
--     cause_of, text_of_failure   why it gave no success, and the text of that
--     success_staged, run_staged  a success staged each task of a vertex with a sink
--     short_of                    where memory is short
use Rattle.std.proofs.Common.{◌≡◌, ◌≢◌, ℕ, List, [], ◌∷◌, ◌++◌, take, length, Option, Some, None, Result, Ok, Err, IfOk, IfErr, OnOk, OnErr, refl, inl, inr, ◌∙◌, sym, ap, subst, append-nil, take_all, le_refl}
use Rattle.std.specs.List.{AllByRecursion}
use Rattle.tez_ports.specs.Content.{Named, Store, Told}
use Rattle.tez_plan.specs.Faults.{IsValid}
use Rattle.tez_conf.specs.declared.values.ConfValues.{ConfValues}
use Rattle.tez_meaning.specs.Jobs.{Job}
use Rattle.tez_meaning.specs.Value.{sink_texts}
use Rattle.tez_meaning.specs.Published.{published}
use Rattle.tez_history.specs.History.{Past}
use Rattle.tez_sinks.specs.Sinks.{sink_name, published_view, TasksWereStaged, HasNoSink}
use Rattle.tez_world_invariant.specs.Store.{HasPublished, WasClear}
use Rattle.tez_world.specs.Lawful.{IsTrace}
use Rattle.tez_steps.specs.Step.{Down, Over, Notes, SinksStand, StoreAfter}
use Rattle.tez_world.specs.World.{RunParts}
use Rattle.tez_world_invariant.proofs.EndsBegin.{begun_store}
use Rattle.tez_steps.specs.declared.verdict.Device.TheVariants as device
use Rattle.tez_steps.specs.declared.verdict.Verdict.{Verdict}
use Rattle.tez_steps.specs.declared.verdict.Verdict.TheVariants.{Succeeded, SinkExists, AttemptsSpent, DeviceFault}
use Rattle.tez_steps.specs.declared.verdict.Took.TheVariants.{Ended}
use Rattle.tez_am.specs.Call.{Stored}
use Rattle.tez_am.specs.Drive.{RunGoesOn, HasEnded, IsVerdict, IsToldBy, IsSure, AnswersTo, ComesTo}
use Rattle.tez_am.specs.Publish.{Publishes, PublishesPart, RunCause}
use Rattle.tez_am.specs.Run.{HasText}
use Rattle.tez_am.specs.Say.{status_of}
use Rattle.tez_am.specs.Answer.{told_text, TellsSinks}
use Rattle.tez_am.specs.Text.{name_of}
use Rattle.tez_am.specs.declared.failure.Failure.{Failure}
use Rattle.tez_am.specs.declared.failure.Failure.TheVariants.{Because, Spent}
use Rattle.tez_am.specs.declared.status.Status.TheVariants as status
use Rattle.tez_am.proofs.Driving.{At}
use Rattle.tez_am.proofs.Lines.{told_right}
use Rattle.tez_am.proofs.Publishing.{finds_free, finds_taken, named_sink, sink_in, once, told_too, more_from, same_from, part_told}

-- a run before its first turn
abbrev no_notes : Notes
no_notes = record { texts = []; sums = [] }

abbrev pub first : Job → ConfValues → RunParts
first job c = record { job = job; conf = c; phase = Down; past = []; queue = []; notes = no_notes; records = [] }

pub is_going : (job : Job) (c : ConfValues) (r : RunParts) → r ≡ first job c → r.phase ≢ Over
is_going job c r is over = let wrong : Down ≡ Over = sym (ap (λ x. x.phase) is) ∙ over in cc

stands : (job : Job) (s : Store) → SinksStand job s.publications [] no_notes s
stands job s = record {
  store = begun_store job s;
  noted = record { rows = λ up. cc; texts = λ v sink ready. cc; sums = λ on. cc };
}

stands_told : (job : Job) (o : Option Store) (s : Store) → o ≡ Some s → Told o (SinksStand job s.publications [] no_notes)
stands_told job o s e t k = let same : Some s ≡ Some t = sym e ∙ k in let one : s ≡ t = cc in subst (λ x. SinksStand job s.publications [] no_notes x) one (stands job s)

-- for some publications before it
pub stands_first : (job : Job) (c : ConfValues) (r : RunParts) (o : Option Store) → r ≡ first job c → (before : Named) × Told o (SinksStand r.job before r.past r.notes)
stands_first job c r None is = ([], λ t k. cc)
stands_first job c r (Some s) is = (s.publications, subst (λ x. Told (Some s) (SinksStand x.job s.publications x.past x.notes)) (sym is) (stands_told job (Some s) s refl))

-- ---- what it published

clear_at : (job : Job) (before : Named) (past : Past) → published_view job past ≡ sink_texts job → WasClear job before past → HasNoSink job before
clear_at job before [] whole h = subst (AllByRecursion (λ sink. published sink.0 before ≡ [])) whole tt
clear_at job before (e ∷ past) whole h = h

all_taken : (job : Job) → take (length (sink_texts job)) (sink_texts job) ≡ sink_texts job
all_taken job = take_all (length (sink_texts job)) (sink_texts job) (le_refl (length (sink_texts job)))

module _ (job : Job) (c : ConfValues) (r0 r1 : RunParts) (old new : Option Store) (f0 f1 p0 p1 : ℕ) (is : r0 ≡ first job c) (valid : IsValid job.plan) where
  abbrev kept : Stored
  kept = record { old = old; new = new; before = f0; now = f1; stops_before = p0; stops_now = p1 }

  abbrev Ends : Verdict → Type 0
  Ends v = HasEnded (At (first job c) old f0 p0) (At r1 new f1 p1) v

  from_first : (v : Verdict) → HasEnded (At r0 old f0 p0) (At r1 new f1 p1) v → Ends v
  from_first v h = subst (λ r. HasEnded (At r old f0 p0) (At r1 new f1 p1) v) is h

  after_at : (v : Verdict) → Ends v → (s : Store) → old ≡ Some s → (t : Store) → new ≡ Some t → StoreAfter job s.publications (Ended v) r1.past r1.notes t
  after_at v h s e t k = h.store s.publications (stands_told job old s e) t k

  published_at : (before : Named) (v : Verdict) (t : Store) → IsVerdict (At (first job c) old f0 p0) (At r1 new f1 p1) v → StoreAfter job before (Ended v) r1.past r1.notes t → HasPublished job before t
  published_at before (Succeeded pairs) t right h = (length (sink_texts job), h.0.right.publications ∙ ap (λ xs. before ++ xs) (right.whole ∙ sym (all_taken job)))
  published_at before (SinkExists v) t right h = (0, h.0 ∙ sym (append-nil before))
  published_at before (AttemptsSpent k) t right h = (0, h.0 ∙ sym (append-nil before))
  published_at before (DeviceFault d) t right h = h.0

  part_at : (v : Verdict) → Ends v → PublishesPart job kept
  part_at v h = part_told job kept valid h.later.told (λ s e t k. published_at s.publications v t h.right (after_at v h s e t k))

  success_at : (pairs : _) → Ends (Succeeded pairs) → Publishes job kept
  success_at pairs h =
      let no_sink : (s : Store) → old ≡ Some s → (t : Store) → new ≡ Some t → HasNoSink job s.publications = λ s e t k. clear_at job s.publications r1.past h.right.whole (after_at (Succeeded pairs) h s e t k).0.clear in
      let all : (s : Store) → old ≡ Some s → (t : Store) → new ≡ Some t → t.publications ≡ s.publications ++ sink_texts job = λ s e t k. (after_at (Succeeded pairs) h s e t k).0.right.publications ∙ ap (λ xs. s.publications ++ xs) h.right.whole in
      record {
        defined = h.right.defined;
        not_before = λ s e. let t = told_too old new h.later.told s e in finds_free job s.publications (no_sink s e t.0 t.1);
        once = λ t k. let s = told_too new old (sym h.later.told) t k in once job s.0.publications t.publications valid (no_sink s.0 s.1 t k) (all s.0 s.1 t k);
        no_other = more_from old new (sink_texts job) h.later.told all;
      }

  pub success_publishes : (v : Verdict) (text : List ℕ) → IsToldBy job v text → HasEnded (At r0 old f0 p0) (At r1 new f1 p1) v → Publishes job kept
  success_publishes (Succeeded pairs) text to h = success_at pairs (from_first (Succeeded pairs) h)
  success_publishes (SinkExists v) text to h = absurd to
  success_publishes (AttemptsSpent t) text to h = absurd to
  success_publishes (DeviceFault d) text to h = absurd to

  pub success_tells : (v : Verdict) (text : List ℕ) → IsToldBy job v text → HasEnded (At r0 old f0 p0) (At r1 new f1 p1) v → TellsSinks new job text
  success_tells (Succeeded pairs) text to h = (
    (pairs.items, to),
    λ t k. let s = told_too new old (sym h.later.told) t k in to ∙ ap (told_text job.plan) (after_at (Succeeded pairs) (from_first (Succeeded pairs) h) s.0 s.1 t k).1 ∙ told_right job,
  )
  success_tells (SinkExists v) text to h = absurd to
  success_tells (AttemptsSpent t) text to h = absurd to
  success_tells (DeviceFault d) text to h = absurd to

  -- each task of a vertex with a sink was staged
  pub success_staged : (v : Verdict) (text : List ℕ) → IsToldBy job v text → HasEnded (At r0 old f0 p0) (At r1 new f1 p1) v → Told new (λ t. TasksWereStaged job r1.past t.stage_calls)
  success_staged (Succeeded pairs) text to h = λ t k. let s = told_too new old (sym h.later.told) t k in (after_at (Succeeded pairs) (from_first (Succeeded pairs) h) s.0 s.1 t k).2
  success_staged (SinkExists v) text to h = absurd to
  success_staged (AttemptsSpent t) text to h = absurd to
  success_staged (DeviceFault d) text to h = absurd to

  abbrev Because_of : Failure → Type 0
  Because_of f = RunCause job kept (status_of f)

  because : (f g : Failure) → f ≡ g → Because_of g → Because_of f
  because f g same h = subst Because_of (sym same) h

  cause_at : (v : Verdict) (f : Failure) → AnswersTo job v f → Ends v → Because_of f
  cause_at (Succeeded pairs) f to h = because f (Because status.NoMemory) to (part_at (Succeeded pairs) h)
  cause_at (SinkExists v) f to h = elim to [
    | inl named ↦ because f (Because (status.SinkExists (sink_name job.plan v.0))) named (
      same_from old new h.later.told (λ s e t k. (after_at (SinkExists v) h s e t k).0),
      named_sink job.plan v.0 (sink_in job.plan v.0 h.right),
      λ s e. let t = told_too old new h.later.told s e in finds_taken job.plan s.publications v.0 (after_at (SinkExists v) h s e t.0 t.1).1,
    )
    | inr short ↦ because f (Because status.NoMemory) short (part_at (SinkExists v) h)
  ]
  cause_at (AttemptsSpent t) f to h = elim to [
    | inl named ↦ because f (Spent t.vertex t.index (name_of job.plan t.vertex.0)) named (
      same_from old new h.later.told (λ s e u k. (after_at (AttemptsSpent t) h s e u k).0),
      (λ s e. let u = told_too old new h.later.told s e in finds_free job s.publications (after_at (AttemptsSpent t) h s e u.0 u.1).1),
      h.right,
    )
    | inr short ↦ because f (Because status.NoMemory) short (part_at (AttemptsSpent t) h)
  ]
  cause_at (DeviceFault device.Store) f to h = because f (Because (status.DeviceFault device.Store)) to (h.right.1, part_at (DeviceFault device.Store) h)
  cause_at (DeviceFault device.Disk) f to h = let wrong = h.right.0 in cc

  pub cause_of : (v : Verdict) (f : Failure) → AnswersTo job v f → HasEnded (At r0 old f0 p0) (At r1 new f1 p1) v → Because_of f
  cause_of v f to h = cause_at v f to (from_first v h)

  -- memory was short in a turn
  pub short_of : RunGoesOn (At r0 old f0 p0) (At r1 new f1 p1) → ((before : Named) (s : Store) → r1.phase ≢ Over → SinksStand r1.job before r1.past r1.notes s → HasPublished r1.job before s) → PublishesPart job kept
  short_of h in_order =
      let on : RunGoesOn (At (first job c) old f0 p0) (At r1 new f1 p1) = subst (λ r. RunGoesOn (At r old f0 p0) (At r1 new f1 p1)) is h in
      let same : r1.job ≡ job = on.later.job in
      part_told job kept valid on.later.told (λ s e t k.
      subst (λ j. HasPublished j s.publications t) same
      (in_order s.publications t on.going (subst (λ j. SinksStand j s.publications r1.past r1.notes t) (sym same) (on.store s.publications (stands_told job old s e) t k))))

  pub same_job : (v : Verdict) → HasEnded (At r0 old f0 p0) (At r1 new f1 p1) v → r1.job ≡ job
  same_job v h = h.later.job ∙ ap (λ r. r.job) is

-- ---- its text

named_text : (job : Job) (f g : Failure) → f ≡ g → HasText job g → HasText job f
named_text job f g same h = subst (HasText job) (sym same) h

pub text_of_failure : (job : Job) (v : Verdict) (f : Failure) → AnswersTo job v f → HasText job f
text_of_failure job (Succeeded pairs) f to = named_text job f (Because status.NoMemory) to tt
text_of_failure job (SinkExists v) f to = elim to [ inl named ↦ named_text job f (Because (status.SinkExists (sink_name job.plan v.0))) named tt | inr short ↦ named_text job f (Because status.NoMemory) short tt ]
text_of_failure job (AttemptsSpent t) f to = elim to [ inl named ↦ named_text job f (Spent t.vertex t.index (name_of job.plan t.vertex.0)) named refl | inr short ↦ named_text job f (Because status.NoMemory) short tt ]
text_of_failure job (DeviceFault device.Store) f to = named_text job f (Because (status.DeviceFault device.Store)) to tt
text_of_failure job (DeviceFault device.Disk) f to = named_text job f (Because (status.DeviceFault device.Disk)) to tt

pub sure_failure : (job : Job) (v : Verdict) (f : Failure) → IsSure v → AnswersTo job v f → status_of f ≢ status.DeviceFault device.Store
sure_failure job (Succeeded pairs) f sure to = λ e. let is = to in cc
sure_failure job (SinkExists v) f sure to = elim to [ inl named ↦ (λ e. let is = named in cc) | inr short ↦ (λ e. let is = short in cc) ]
sure_failure job (AttemptsSpent t) f sure to = elim to [ inl named ↦ (λ e. let is = named in cc) | inr short ↦ (λ e. let is = short in cc) ]
sure_failure job (DeviceFault d) f sure to = absurd sure

-- ---- all of it

pub record RunEnds (job : Job) (store : Stored) (answer : Result (List ℕ) Failure) : Type 0 where
  pub text : IfOk answer (TellsSinks store.new job)
  pub published : OnOk answer (Publishes job store)
  pub cause : IfErr answer (λ f. RunCause job store (status_of f))
  pub failure_text : IfErr answer (HasText job)

pub run_ends : {E : Type 0} (job : Job) (c : ConfValues) (r0 r1 : RunParts) (old new : Option Store) (f0 f1 p0 p1 : ℕ) → r0 ≡ first job c → IsValid job.plan → (ended : Result Verdict E) (answer : Result (List ℕ) Failure)
    → IfOk ended (HasEnded (At r0 old f0 p0) (At r1 new f1 p1)) → OnErr ended (RunGoesOn (At r0 old f0 p0) (At r1 new f1 p1))
    → ((before : Named) (s : Store) → r1.phase ≢ Over → SinksStand r1.job before r1.past r1.notes s → HasPublished r1.job before s) → (j : Job) → j ≡ job → ComesTo j ended answer
    → RunEnds job (record { old = old; new = new; before = f0; now = f1; stops_before = p0; stops_now = p1 }) answer
run_ends job c r0 r1 old new f0 f1 p0 p1 is valid (Ok v) (Ok text) h on in_order j one to =
    let told : IsToldBy job v text = subst (λ x. IsToldBy x v text) one to in
    record {
      text = success_tells job c r0 r1 old new f0 f1 p0 p1 is valid v text told h;
      published = success_publishes job c r0 r1 old new f0 f1 p0 p1 is valid v text told h;
      cause = tt;
      failure_text = tt;
    }
run_ends job c r0 r1 old new f0 f1 p0 p1 is valid (Ok v) (Err f) h on in_order j one to =
    let answers : AnswersTo job v f = subst (λ x. AnswersTo x v f) one to in
    record { text = tt; published = tt; cause = cause_of job c r0 r1 old new f0 f1 p0 p1 is valid v f answers h; failure_text = text_of_failure job v f answers }
run_ends job c r0 r1 old new f0 f1 p0 p1 is valid (Err e) (Ok text) h on in_order j one to = absurd to
run_ends job c r0 r1 old new f0 f1 p0 p1 is valid (Err e) (Err f) h on in_order j one to = record {
  text = tt;
  published = tt;
  cause = subst (λ g. RunCause job (record { old = old; new = new; before = f0; now = f1; stops_before = p0; stops_now = p1 }) (status_of g)) (sym to) (short_of job c r0 r1 old new f0 f1 p0 p1 is valid on in_order);
  failure_text = named_text job f (Because status.NoMemory) to tt;
}

pub run_staged : {E : Type 0} (job : Job) (c : ConfValues) (r0 r1 : RunParts) (old new : Option Store) (f0 f1 p0 p1 : ℕ) → r0 ≡ first job c → IsValid job.plan → (ended : Result Verdict E) (answer : Result (List ℕ) Failure)
    → IfOk ended (HasEnded (At r0 old f0 p0) (At r1 new f1 p1)) → (j : Job) → j ≡ job → ComesTo j ended answer → OnOk answer (Told new (λ t. TasksWereStaged job r1.past t.stage_calls))
run_staged job c r0 r1 old new f0 f1 p0 p1 is valid (Ok v) (Ok text) h j one to =
    success_staged job c r0 r1 old new f0 f1 p0 p1 is valid v text (subst (λ x. IsToldBy x v text) one to) h
run_staged job c r0 r1 old new f0 f1 p0 p1 is valid (Ok v) (Err f) h j one to = tt
run_staged job c r0 r1 old new f0 f1 p0 p1 is valid (Err e) (Ok text) h j one to = absurd to
run_staged job c r0 r1 old new f0 f1 p0 p1 is valid (Err e) (Err f) h j one to = tt

pub staged_later : (job : Job) (o : Option Store) (answer : Result (List ℕ) Failure) (past later : Past) → later ≡ past → OnOk answer (Told o (λ t. TasksWereStaged job past t.stage_calls)) → OnOk answer (Told o (λ t. TasksWereStaged job later t.stage_calls))
staged_later job o (Ok text) past later is h = subst (λ (p : Past). Told o (λ t. TasksWereStaged job p t.stage_calls)) (sym is) h
staged_later job o (Err f) past later is h = tt

pub run_sure : {E : Type 0} (job : Job) (ended : Result Verdict E) (answer : Result (List ℕ) Failure) → IfOk ended IsSure → ComesTo job ended answer → IfErr answer (λ f. status_of f ≢ status.DeviceFault device.Store)
run_sure job (Ok v) (Ok text) sure to = tt
run_sure job (Ok v) (Err f) sure to = sure_failure job v f sure to
run_sure job (Err e) (Ok text) sure to = absurd to
run_sure job (Err e) (Err f) sure to = λ is. let same = to in cc

pub run_same : {E : Type 0} (job : Job) (c : ConfValues) (r0 r1 : RunParts) (old new : Option Store) (f0 f1 p0 p1 : ℕ) → r0 ≡ first job c → (ended : Result Verdict E) → IfOk ended (HasEnded (At r0 old f0 p0) (At r1 new f1 p1)) → OnErr ended (RunGoesOn (At r0 old f0 p0) (At r1 new f1 p1)) → r1.job ≡ job
run_same job c r0 r1 old new f0 f1 p0 p1 is (Ok v) h on = h.later.job ∙ ap (λ r. r.job) is
run_same job c r0 r1 old new f0 f1 p0 p1 is (Err e) h on = on.later.job ∙ ap (λ r. r.job) is

-- nothing was called
pub nothing_done : (job : Job) (o : Option Store) (f p : ℕ) → IsValid job.plan → PublishesPart job (record { old = o; new = o; before = f; now = f; stops_before = p; stops_now = p })
nothing_done job o f p valid = part_told job _ valid refl (λ s e t k. (0, (let same : Some t ≡ Some s = sym k ∙ e in let one : t ≡ s = cc in ap (λ x. x.publications) one) ∙ sym (append-nil s.publications)))

pub traced : (job : Job) (c : ConfValues) (r : RunParts) → r.job ≡ job → r.conf ≡ c → (past : Past) → past ≡ r.past → IsTrace r.job r.conf r.past → IsTrace job c past
traced job c r one two past is h =
    subst (λ (p : Past). IsTrace job c p) (sym is) (subst (λ (d : ConfValues). IsTrace job d r.past) two (subst (λ (j : Job). IsTrace j r.conf r.past) one h))
