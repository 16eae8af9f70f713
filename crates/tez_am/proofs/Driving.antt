-- The run of a job, turn by turn.
--     goes_same, goes_after, ends_after      nothing, or more turns
--     no_fail                                the master chooses no failure
--     turn_on, turn_ends, turn_refused       what a turn comes to
use Rattle.std.proofs.Common.{◌≡◌, ◌≢◌, ℕ, ◌≤◌, Bool, true, List, [], ◌∷◌, ◌++◌, map, find, flat_map, Option, Some, None, IfSome, is_some, option_map, refl, inl, inr, ◌∙◌, sym, ap, subst, le_refl, le_trans}
use Rattle.tez_ids.specs.declared.EdgeId.{EdgeId}
use Rattle.tez_ids.specs.declared.VertexId.{VertexId}
use Rattle.tez_ids.specs.declared.TaskId.{TaskId}
use Rattle.tez_ids.specs.declared.AttemptId.{AttemptId}
use Rattle.tez_lists.proofs.Cases.{cases}
use Rattle.tez_events.specs.declared.CoreEvent.{CoreEvent}
use Rattle.tez_events.specs.declared.CoreEvent.TheVariants.{Open, Configure, Queue, Place, Fetch, Send, Preempt, Fail, Ready, CommitStart, Ask, Publish, Finish, Purge}
use Rattle.tez_ports.specs.Content.{Named, Store, Told}
use Rattle.tez_plan.specs.Dag.{Dag}
use Rattle.tez_conf.specs.declared.values.ConfValues.{ConfValues}
use Rattle.tez_meaning.specs.Jobs.{Job}
use Rattle.tez_meaning.specs.Value.{bad}
use Rattle.tez_history.specs.History.{Past}
use Rattle.tez_history.specs.Steps.{enabled, candidates, choice, some_configure, some_queue, some_fetch, fetches_of, some_send, some_place, places_of, some_preempt, some_ready, some_ask, some_publish}
use Rattle.tez_steps.specs.Step.{Phase, Down, Up, Over, Notes, SinksStand, StoreAfter, StepIs, FaultIs, IsNoFault, IsBad, ReportAdds, EndIs}
use Rattle.tez_world.specs.World.{RunParts, next_in}
use Rattle.tez_steps.specs.declared.event.Event.{Event}
use Rattle.tez_steps.specs.declared.event.Event.TheVariants.{Core, Report}
use Rattle.tez_steps.specs.declared.verdict.Verdict.{Verdict}
use Rattle.tez_steps.specs.declared.verdict.Verdict.TheVariants.{Succeeded, SinkExists, AttemptsSpent, DeviceFault}
use Rattle.tez_steps.specs.declared.verdict.Took.{Took}
use Rattle.tez_steps.specs.declared.verdict.Took.TheVariants.{Changed, Ignored, Ended}
use Rattle.tez_orders.specs.declared.report.Outcome.{Outcome}
use Rattle.tez_orders.specs.declared.report.Outcome.TheVariants.{Done, Bad, NoMemory}
use Rattle.tez_am.specs.Drive.{Moment, IsNoFail, Later, RunGoesOn, IsVerdict, IsEndOf, IsSure, HasEnded}
use Rattle.tez_am.proofs.Publishing.{rose_later}

-- ---- turns after turns

later_same : (m : Moment) → Later m m
later_same m = record { job = refl; told = refl; faults = le_refl m.faults; stops = le_refl m.stops }

later_after : (a b c : Moment) → Later a b → Later b c → Later a c
later_after a b c h k = record { job = k.job ∙ h.job; told = k.told ∙ h.told; faults = le_trans h.faults k.faults; stops = le_trans h.stops k.stops }

pub goes_same : (m : Moment) → m.phase ≢ Over → RunGoesOn m m
goes_same m going = record { later = later_same m; going = going; store = λ before h. h }

pub goes_after : (a b c : Moment) → RunGoesOn a b → RunGoesOn b c → RunGoesOn a c
goes_after a b c h k = record {
  later = later_after a b c h.later k.later;
  going = k.going;
  store = λ before told. subst (λ j. Told c.store (SinksStand j before c.past c.notes)) h.later.job (k.store before (subst (λ j. Told b.store (SinksStand j before b.past b.notes)) (sym h.later.job) (h.store before told)));
}

verdict_after : (a b c : Moment) → Later a b → (v : Verdict) → IsVerdict b c v → IsVerdict a c v
verdict_after a b c h (Succeeded pairs) k = subst (λ j. IsVerdict (record a { job = j }) c (Succeeded pairs)) h.job k
verdict_after a b c h (SinkExists v) k = subst (λ j. IsVerdict (record a { job = j }) c (SinkExists v)) h.job k
verdict_after a b c h (AttemptsSpent t) k = subst (λ j. IsVerdict (record a { job = j }) c (AttemptsSpent t)) h.job k
verdict_after a b c h (DeviceFault d) k = (k.0, elim k.1 [ inl rose ↦ inl (rose_later _ _ _ h.faults rose) | inr rose ↦ inr (rose_later _ _ _ h.stops rose) ])

pub ends_after : (a b c : Moment) (v : Verdict) → RunGoesOn a b → HasEnded b c v → HasEnded a c v
ends_after a b c v h k = record {
  later = later_after a b c h.later k.later;
  right = verdict_after a b c h.later v k.right;
  store = λ before told. subst (λ j. Told c.store (StoreAfter j before (Ended v) c.past c.notes)) h.later.job (k.store before (subst (λ j. Told b.store (SinksStand j before b.past b.notes)) (sym h.later.job) (h.store before told)));
}

-- ---- the master chooses no failure

abbrev Plain : CoreEvent → Type 0
Plain e = (a : AttemptId) → e ≢ Fail a

abbrev AllPlain : List CoreEvent → Type 0
AllPlain [] = Unit {0}
AllPlain (e ∷ es) = Plain e × AllPlain es

plain_append : (xs ys : List CoreEvent) → AllPlain xs → AllPlain ys → AllPlain (xs ++ ys)
plain_append [] ys h k = k
plain_append (x ∷ xs) ys h k = (h.0, plain_append xs ys h.1 k)

plain_map : {X : Type 0} (f : X → CoreEvent) → ((x : X) → Plain (f x)) → (xs : List X) → AllPlain (map f xs)
plain_map f h [] = tt
plain_map f h (x ∷ xs) = (h x, plain_map f h xs)

plain_flat : {X : Type 0} (f : X → List CoreEvent) → ((x : X) → AllPlain (f x)) → (xs : List X) → AllPlain (flat_map f xs)
plain_flat f h [] = tt
plain_flat f h (x ∷ xs) = plain_append (f x) (flat_map f xs) (h x) (plain_flat f h xs)

plain_configure : (v : VertexId) → Plain (Configure v)
plain_configure v = λ a e. cc

plain_queue : (t : TaskId) → Plain (Queue t)
plain_queue t = λ a e. cc

plain_fetch : (b : AttemptId) (d : EdgeId) (i : ℕ) → Plain (Fetch b d i)
plain_fetch b d i = λ a e. cc

plain_send : (b : AttemptId) → Plain (Send b)
plain_send b = λ a e. cc

plain_place : (b : AttemptId) (p : ℕ) → Plain (Place b p)
plain_place b p = λ a e. cc

plain_preempt : (b : AttemptId) → Plain (Preempt b)
plain_preempt b = λ a e. cc

plain_ready : (v : VertexId) → Plain (Ready v)
plain_ready v = λ a e. cc

plain_ask : (v : VertexId) → Plain (Ask v)
plain_ask v = λ a e. cc

plain_publish : (v : VertexId) → Plain (Publish v)
plain_publish v = λ a e. cc

plain_start : Plain CommitStart
plain_start = λ a e. cc

plain_finish : Plain Finish
plain_finish = λ a e. cc

plain_purge : Plain Purge
plain_purge = λ a e. cc

candidates_plain : (g : Dag) (c : ConfValues) (past : Past) → AllPlain (candidates g c past)
candidates_plain g c past =
    plain_append (some_configure g) _ (plain_map _ (λ v. plain_configure _) _)
    (plain_append (some_queue g past) _ (plain_map _ plain_queue _)
    (plain_append (some_fetch g past) _ (plain_flat (fetches_of g past) (λ b. plain_map _ (λ i. plain_fetch b _ _) _) _)
    (plain_append (some_send g past) _ (plain_map _ plain_send _)
    (plain_append (some_place g c past) _ (plain_flat (places_of c) (λ b. plain_map _ (plain_place b) _) _)
    (plain_append (some_preempt g past) _ (plain_map _ plain_preempt _)
    (plain_append (some_ready g) _ (plain_map _ (λ v. plain_ready _) _) (
      plain_start,
      plain_append (some_ask g) _ (plain_map _ (λ v. plain_ask _) _)
          (plain_append (some_publish g) _ (plain_map _ (λ v. plain_publish _) _) (plain_finish, (plain_purge, tt))),
    )))))))

found_plain : (p : CoreEvent → Bool) (xs : List CoreEvent) → AllPlain xs → (e : CoreEvent) → find p xs ≡ Some e → Plain e
found_plain p [] h e is = cc
found_plain p (x ∷ xs) h e is = cases (p x)
    (λ t. let same : Some x ≡ Some e = rw t at is in let one : x ≡ e = cc in subst Plain one h.0)
    (λ f. let rest : find p xs ≡ Some e = rw f at is in found_plain p xs h.1 e rest)

chosen : (o : Option CoreEvent) → ((e : CoreEvent) → o ≡ Some e → Plain e) → IfSome (option_map Core o) IsNoFail
chosen None h = tt
chosen (Some e) h = λ a is. h e refl a (let same : e ≡ Fail a = cc in same)

pub no_fail : (job : Job) (c : ConfValues) (phase : Phase) (past : Past) → IfSome (next_in job c phase past) IsNoFail
no_fail job c Down past = λ a is. cc
no_fail job c Up past = chosen (choice job.plan c past) (found_plain (enabled job.plan c past) (candidates job.plan c past) (candidates_plain job.plan c past))
no_fail job c Over past = tt

-- ---- a step

-- a report that spends a task is of a bad record
spent_bad : (job : Job) (c : ConfValues) (phase : Phase) (past after : Past) (e : Event) (t : TaskId) → IsNoFail e → EndIs job c phase past e (AttemptsSpent t) after → bad job t.vertex.0 ≡ true
spent_bad job c phase past after (Core e) t plain end = absurd (plain end.1.0 (ap Core end.1.1))
spent_bad job c Down past after (Report r) t plain end = let wrong : Report r ≡ Core Open = end.0.0 in cc
spent_bad job c Over past after (Report r) t plain end = absurd end.0
spent_bad job c Up past after (Report r) t plain end = by r.outcome end.0.1 end.1.1.1 where
  by : (o : Outcome) → ReportAdds job c past r.order.attempt o after → IsBad o → bad job t.vertex.0 ≡ true
  by (Done value pieces) adds wrong = absurd wrong
  by (Bad b) adds is = ap (λ k. bad job k.vertex.0) (sym (ap (λ x. x.task) end.1.1.0 ∙ end.1.2)) ∙ adds.2
  by NoMemory adds wrong = absurd wrong

abbrev pub At : RunParts → Option Store → ℕ → ℕ → Moment
At r s f p = record { job = r.job; phase = r.phase; past = r.past; notes = r.notes; store = s; faults = f; stops = p }

-- what the run alone changed, and not its job or history
pub mid_goes : (r0 r1 : RunParts) (s : Option Store) (f p : ℕ) → r0.phase ≢ Over → r1.job ≡ r0.job → r1.phase ≡ r0.phase → r1.past ≡ r0.past → r1.notes ≡ r0.notes → RunGoesOn (At r0 s f p) (At r1 s f p)
mid_goes r0 r1 s f p going job phase past notes = record {
  later = record { job = job; told = refl; faults = le_refl f; stops = le_refl p };
  going = λ over. going (sym phase ∙ over);
  store = λ before h. subst (λ (n : Notes). Told s (SinksStand r0.job before r1.past n)) (sym notes) (subst (λ (x : Past). Told s (SinksStand r0.job before x r0.notes)) (sym past) h);
}

-- all that a step tells
pub record Stepped (r1 r2 : RunParts) (o n : Option Store) (f0 f1 p0 p1 : ℕ) (e : Event) (took : Took) : Type 0 where
  pub job : r2.job ≡ r1.job
  pub step : StepIs r1.job r1.conf r1.phase r1.past e took r2.phase r2.past
  pub told : is_some n ≡ is_some o
  pub later : (f0 ≤ f1) × (p0 ≤ p1)
  pub fault : FaultIs f0 p0 f1 p1 took
  pub store : (before : Named) → r1.phase ≢ Over → Told o (SinksStand r1.job before r1.past r1.notes) → Told n (StoreAfter r1.job before took r2.past r2.notes)

later_by : (r1 r2 : RunParts) (o n : Option Store) (f0 f1 p0 p1 : ℕ) (e : Event) (took : Took) → Stepped r1 r2 o n f0 f1 p0 p1 e took → Later (At r1 o f0 p0) (At r2 n f1 p1)
later_by r1 r2 o n f0 f1 p0 p1 e took h = record { job = h.job; told = h.told; faults = h.later.0; stops = h.later.1 }

step_on : (r1 r2 : RunParts) (o n : Option Store) (f0 f1 p0 p1 : ℕ) (e : Event) (took : Took) (end : Option Verdict) → r1.phase ≢ Over → Stepped r1 r2 o n f0 f1 p0 p1 e took → IsEndOf took end → end ≡ None → RunGoesOn (At r1 o f0 p0) (At r2 n f1 p1)
step_on r1 r2 o n f0 f1 p0 p1 e Changed end going h is none = record {
  later = later_by r1 r2 o n f0 f1 p0 p1 e Changed h;
  going = λ over. let up : r2.phase ≡ Up = h.step.0 in cc;
  store = λ before told. h.store before going told;
}
step_on r1 r2 o n f0 f1 p0 p1 e (Ignored why) end going h is none = record {
  later = later_by r1 r2 o n f0 f1 p0 p1 e (Ignored why) h;
  going = λ over. going (sym h.step.0 ∙ over);
  store = λ before told. h.store before going told;
}
step_on r1 r2 o n f0 f1 p0 p1 e (Ended v) end going h is none = let wrong : Some v ≡ None = sym is ∙ none in cc

right_at : (r1 r2 : RunParts) (o n : Option Store) (f0 f1 p0 p1 : ℕ) (e : Event) (v : Verdict) → IsNoFail e → Stepped r1 r2 o n f0 f1 p0 p1 e (Ended v) → IsVerdict (At r1 o f0 p0) (At r2 n f1 p1) v
right_at r1 r2 o n f0 f1 p0 p1 e (Succeeded pairs) plain h = h.step.2
right_at r1 r2 o n f0 f1 p0 p1 e (SinkExists v) plain h = h.step.2.1
right_at r1 r2 o n f0 f1 p0 p1 e (AttemptsSpent t) plain h = spent_bad r1.job r1.conf r1.phase r1.past r2.past e t plain h.step.1
right_at r1 r2 o n f0 f1 p0 p1 e (DeviceFault d) plain h = h.fault

step_ends : (r1 r2 : RunParts) (o n : Option Store) (f0 f1 p0 p1 : ℕ) (e : Event) (v : Verdict) → IsNoFail e → r1.phase ≢ Over → Stepped r1 r2 o n f0 f1 p0 p1 e (Ended v) → HasEnded (At r1 o f0 p0) (At r2 n f1 p1) v
step_ends r1 r2 o n f0 f1 p0 p1 e v plain going h = record {
  later = later_by r1 r2 o n f0 f1 p0 p1 e (Ended v) h;
  right = right_at r1 r2 o n f0 f1 p0 p1 e v plain h;
  store = λ before told. h.store before going told;
}

step_ended : (r1 r2 : RunParts) (o n : Option Store) (f0 f1 p0 p1 : ℕ) (e : Event) (took : Took) (end : Option Verdict) → IsNoFail e → r1.phase ≢ Over → Stepped r1 r2 o n f0 f1 p0 p1 e took → IsEndOf took end
    → IfSome end (HasEnded (At r1 o f0 p0) (At r2 n f1 p1))
step_ended r1 r2 o n f0 f1 p0 p1 e Changed end plain going h is = rw is tt
step_ended r1 r2 o n f0 f1 p0 p1 e (Ignored why) end plain going h is = rw is tt
step_ended r1 r2 o n f0 f1 p0 p1 e (Ended v) end plain going h is = rw is (step_ends r1 r2 o n f0 f1 p0 p1 e v plain going h)

pub sure_end : (took : Took) (end : Option Verdict) → IsEndOf took end → IsNoFault took → IfSome end IsSure
sure_end Changed end is h = rw is tt
sure_end (Ignored why) end is h = rw is tt
sure_end (Ended (Succeeded pairs)) end is h = rw is tt
sure_end (Ended (SinkExists v)) end is h = rw is tt
sure_end (Ended (AttemptsSpent t)) end is h = rw is tt
sure_end (Ended (DeviceFault d)) end is h = absurd h

-- ---- a turn

if_some_map : (P Q : Verdict → Type 0) (o : Option Verdict) → ((v : Verdict) → P v → Q v) → IfSome o P → IfSome o Q
if_some_map P Q None f h = tt
if_some_map P Q (Some v) f h = f v h

pub turn_on : (r0 r1 r2 : RunParts) (o n : Option Store) (f0 f1 p0 p1 : ℕ) (e : Event) (took : Took) (end : Option Verdict) → RunGoesOn (At r0 o f0 p0) (At r1 o f0 p0) → Stepped r1 r2 o n f0 f1 p0 p1 e took → IsEndOf took end → end ≡ None
    → RunGoesOn (At r0 o f0 p0) (At r2 n f1 p1)
turn_on r0 r1 r2 o n f0 f1 p0 p1 e took end mid h is none = goes_after (At r0 o f0 p0) (At r1 o f0 p0) (At r2 n f1 p1) mid (step_on r1 r2 o n f0 f1 p0 p1 e took end mid.going h is none)

pub turn_ends : (r0 r1 r2 : RunParts) (o n : Option Store) (f0 f1 p0 p1 : ℕ) (e : Event) (took : Took) (end : Option Verdict) → IsNoFail e → RunGoesOn (At r0 o f0 p0) (At r1 o f0 p0) → Stepped r1 r2 o n f0 f1 p0 p1 e took → IsEndOf took end
    → IfSome end (HasEnded (At r0 o f0 p0) (At r2 n f1 p1))
turn_ends r0 r1 r2 o n f0 f1 p0 p1 e took end plain mid h is =
    if_some_map (HasEnded (At r1 o f0 p0) (At r2 n f1 p1)) (HasEnded (At r0 o f0 p0) (At r2 n f1 p1)) end (λ v k. ends_after (At r0 o f0 p0) (At r1 o f0 p0) (At r2 n f1 p1) v mid k) (step_ended r1 r2 o n f0 f1 p0 p1 e took end plain mid.going h is)

-- a step that was refused
pub turn_refused : (r0 r1 r2 : RunParts) (o n : Option Store) (f0 f1 p0 p1 : ℕ) → RunGoesOn (At r0 o f0 p0) (At r1 o f0 p0) → r2 ≡ r1 → is_some n ≡ is_some o → (f0 ≤ f1) × (p0 ≤ p1)
    → ((before : Named) → r1.phase ≢ Over → Told o (SinksStand r1.job before r1.past r1.notes) → Told n (SinksStand r1.job before r2.past r2.notes)) → RunGoesOn (At r0 o f0 p0) (At r2 n f1 p1)
turn_refused r0 r1 r2 o n f0 f1 p0 p1 mid same told later store =
    goes_after (At r0 o f0 p0) (At r1 o f0 p0) (At r2 n f1 p1) mid (record {
      later = record { job = ap (λ r. r.job) same; told = told; faults = later.0; stops = later.1 };
      going = λ over. mid.going (sym (ap (λ r. r.phase) same) ∙ over);
      store = λ before h. store before mid.going h;
    })

-- what stands for one job and history stands for the same
pub told_mid : (r0 r1 : RunParts) (o : Option Store) (before : Named) → r1.job ≡ r0.job → r1.past ≡ r0.past → r1.notes ≡ r0.notes → Told o (SinksStand r0.job before r0.past r0.notes) → Told o (SinksStand r1.job before r1.past r1.notes)
told_mid r0 r1 o before job past notes h = subst (λ j. Told o (SinksStand j before r1.past r1.notes)) (sym job) (subst (λ (n : Notes). Told o (SinksStand r0.job before r1.past n)) (sym notes) (subst (λ (x : Past). Told o (SinksStand r0.job before x r0.notes)) (sym past) h))

pub stands_on : (a b : Moment) (before : Named) → RunGoesOn a b → Told a.store (SinksStand a.job before a.past a.notes) → Told b.store (SinksStand b.job before b.past b.notes)
stands_on a b before h told = subst (λ j. Told b.store (SinksStand j before b.past b.notes)) (sym h.later.job) (h.store before told)

pub ended_at : (a b c : Moment) (end : Option Verdict) (v : Verdict) → end ≡ Some v → RunGoesOn a b → IfSome end (HasEnded b c) → HasEnded a c v
ended_at a b c end v is h k = ends_after a b c v h (subst (λ o. IfSome o (HasEnded b c)) is k)

pub sure_at : (end : Option Verdict) (v : Verdict) → end ≡ Some v → IfSome end IsSure → IsSure v
sure_at end v is h = subst (λ o. IfSome o IsSure) is h
