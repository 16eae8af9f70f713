-- A master tells why an attempt is not processing.
use Rattle.std.specs.Prelude.{◌≡◌, ℕ, ◌+◌, ◌<◌, nat_lt, nat_le, Bool, true, false, ◌||◌, if◌then◌else◌, [], ◌∷◌, Some, refl}
use Rattle.std.proofs.Common.{ap, sym, ◌∙◌, subst, arith, true≢false}
use Rattle.std.proofs.lemmas.Bool.Decides.{nat_tests}
use Rattle.tez_ids.specs.declared.TaskId.{TaskId}
use Rattle.tez_ids.specs.declared.AttemptId.{AttemptId}
use Rattle.tez_ids.specs.Same.{same_task, same_attempt}
use Rattle.tez_plan.specs.Dag.{Dag}
use Rattle.tez_conf.specs.declared.values.ConfValues.{ConfValues}
use Rattle.tez_events.specs.declared.Entry.TheVariants.{Opened, Over, Kept, Queued, Placed, Ordered, Succeeded, Failed, Killed, Stopped, Purged}
use Rattle.tez_task.specs.Table.{state_of}
use Rattle.tez_history.specs.History.{Past, Stage, Unknown, InQueue, Waits, Runs, Ended, stage, sent, epoch, attempts, is_up, is_scheduled}
use Rattle.tez_history.specs.Derived.{is_task, next_attempt}
use Rattle.tez_history.specs.Follows.{IsMade}
use Rattle.tez_laws.specs.Laws.{IsKnown}
use Rattle.tez_laws.proofs.Same.{same_task-true, same_attempt-refl}
use Rattle.tez_laws.proofs.Places.{known}
use Rattle.tez_laws.proofs.Ranges.{scheduled_is_task}
use Rattle.tez_vertex_view.specs.View.{live_view, come}
use Rattle.tez_vertex_view.proofs.Telling.{read_state}
use Rattle.tez_master_model.specs.declared.why.Why.TheVariants.{OldEpoch, UnknownAttempt}
use Rattle.tez_master_model.specs.Read.{task_in}
use Rattle.tez_master_model.specs.Enabled.{why_by, why_of_task, why_in}
use Rattle.tez_master_view.specs.View.{master_view}
use Rattle.tez_master_view.specs.Laws.{Goes, why_at, why_after}
use Rattle.tez_master_view.proofs.TaskReadings.{task_read, no_task_read}

-- ---- while a master is up, the numbers below the count are those of attempts that it knows

either_known : (b : Bool) (x s : Stage) → IsKnown x → IsKnown s → IsKnown (if b then x else s)
either_known true x s h k = h
either_known false x s h k = k

known_sent : (b : Bool) (s : Stage) → IsKnown s → IsKnown (sent b s)
known_sent true Unknown h = h
known_sent true InQueue h = tt
known_sent true (Waits p) h = tt
known_sent true (Runs p) h = tt
known_sent true Ended h = tt
known_sent false s h = h

-- an attempt with the number that is queued now is the queued one
is_it : (past : Past) (b a : AttemptId) → b ≡ next_attempt past b.task → same_task b.task a.task ≡ true → a.epoch.0 ≡ epoch past → a.number ≡ attempts a.task past → same_attempt b a ≡ true
is_it past b a new same now number =
    let t : b.task ≡ a.task = same_task-true b.task a.task same in
    let at : b ≡ next_attempt past a.task = new ∙ ap (next_attempt past) t in
    let here : a ≡ next_attempt past a.task = built a (epoch past) (attempts a.task past) now number in
    subst (λ x. same_attempt b x ≡ true) (at ∙ sym here) (same_attempt-refl b)
  where
    built : (x : AttemptId) (e n : ℕ) → x.epoch.0 ≡ e → x.number ≡ n → x ≡ record { epoch = record { 0 = e }; task = x.task; number = n }
    built x e n p q = ap (λ k. record { epoch = record { 0 = k }; task = x.task; number = x.number }) p ∙ ap (λ k. record { epoch = record { 0 = e }; task = x.task; number = k }) q

earlier : (x n : ℕ) → x < 1 + n → (x ≡ n → ⊥) → x < n
earlier x n h apart = grind (arith, nat_tests)

queued_known : (past : Past) (b a : AttemptId) → b ≡ next_attempt past b.task → a.epoch.0 ≡ epoch past → (a.number < attempts a.task past → IsKnown (stage a past)) → a.number < (if same_task b.task a.task then 1 else 0) + attempts a.task past
    → IsKnown (if same_attempt b a then InQueue else stage a past)
queued_known past b a new now rest low = by (same_attempt b a) refl (same_task b.task a.task) refl low where
  by : (x : Bool) → same_attempt b a ≡ x → (y : Bool) → same_task b.task a.task ≡ y → a.number < (if y then 1 else 0) + attempts a.task past → IsKnown (if x then InQueue else stage a past)
  by true e y f l = tt
  by false e true f l = rest (earlier a.number (attempts a.task past) l (λ n. true≢false (sym (is_it past b a new f now n) ∙ e)))
  by false e false f l = rest (let k : a.number < 0 + attempts a.task past = l in omega arith)

counted_known : (g : Dag) (c : ConfValues) (past : Past) → IsMade g c past → (a : AttemptId) → is_up past ≡ true → a.epoch.0 ≡ epoch past → a.number < attempts a.task past → IsKnown (stage a past)
counted_known g c [] m a up now low = absurd (omega arith)
counted_known g c (Opened _ ∷ past) m a up now low = absurd (let l : a.number < 0 = low in omega arith)
counted_known g c (Over ∷ past) m a up now low = absurd (let l : a.number < 0 = low in omega arith)
counted_known g c (Stopped _ ∷ past) m a up now low = absurd (true≢false (sym up))
counted_known g c (Purged ∷ past) m a up now low = absurd (true≢false (sym up))
counted_known g c (Queued b ∷ past) m a up now low = queued_known past b a m.0.2 now (counted_known g c past m.1 a up now) low
counted_known g c (Placed b _ p ∷ past) m a up now low = either_known (same_attempt b a) (Waits p) (stage a past) tt (counted_known g c past m.1 a up now low)
counted_known g c (Ordered b ∷ past) m a up now low = known_sent (same_attempt b a) (stage a past) (counted_known g c past m.1 a up now low)
counted_known g c (Succeeded b ∷ past) m a up now low = either_known (same_attempt b a) Ended (stage a past) tt (counted_known g c past m.1 a up now low)
counted_known g c (Failed b ∷ past) m a up now low = either_known (same_attempt b a) Ended (stage a past) tt (counted_known g c past m.1 a up now low)
counted_known g c (Killed b _ ∷ past) m a up now low = either_known (same_attempt b a) Ended (stage a past) tt (counted_known g c past m.1 a up now low)
counted_known g c (_ ∷ past) m a up now low = counted_known g c past m.1 a up now low

-- ---- and their tasks are scheduled

or_so : (x y : Bool) → y ≡ true → (x || y) ≡ true
or_so true y h = refl
or_so false y h = h

one_more : (x y : Bool) (n : ℕ) → 0 < (if x then 1 else 0) + n → (0 < n → y ≡ true) → (x || y) ≡ true
one_more true y n h rest = refl
one_more false y n h rest = rest (let l : 0 < 0 + n = h in omega arith)

counted_scheduled : (past : Past) (t : TaskId) → is_up past ≡ true → 0 < attempts t past → is_scheduled t past ≡ true
counted_scheduled [] t up some = absurd (omega arith)
counted_scheduled (Opened _ ∷ past) t up some = absurd (let l : 0 < 0 = some in omega arith)
counted_scheduled (Over ∷ past) t up some = absurd (let l : 0 < 0 = some in omega arith)
counted_scheduled (Stopped _ ∷ past) t up some = absurd (true≢false (sym up))
counted_scheduled (Purged ∷ past) t up some = absurd (true≢false (sym up))
counted_scheduled (Kept a ∷ past) t up some = or_so (same_task a.task t) (is_scheduled t past) (counted_scheduled past t up some)
counted_scheduled (Queued a ∷ past) t up some = one_more (same_task a.task t) (is_scheduled t past) (attempts t past) some (counted_scheduled past t up)
counted_scheduled (_ ∷ past) t up some = counted_scheduled past t up some

-- ---- the reasons

unknown_why : (s : Stage) → (IsKnown s → ⊥) → Some UnknownAttempt ≡ why_at s
unknown_why Unknown h = refl
unknown_why InQueue h = absurd (h tt)
unknown_why (Waits p) h = absurd (h tt)
unknown_why (Runs p) h = absurd (h tt)
unknown_why Ended h = absurd (h tt)

known_why : (s : Stage) → IsKnown s → why_by (come s) ≡ why_at s
known_why Unknown h = absurd h
known_why InQueue h = refl
known_why (Waits p) h = refl
known_why (Runs p) h = refl
known_why Ended h = refl

apart : (x y : ℕ) → nat_lt x y ≡ true → y ≡ x → ⊥
apart x y h e = grind (arith, nat_tests)

level : (x y : ℕ) → nat_lt x y ≡ false → nat_lt y x ≡ false → x ≡ y
level x y h k = grind (arith, nat_tests)

at_most : (x y : ℕ) → nat_le x y ≡ true → y < x → ⊥
at_most x y h l = grind (arith, nat_tests)

less : (x y : ℕ) → nat_le x y ≡ false → y < x
less x y h = grind (arith, nat_tests)

task_tells : (g : Dag) (c : ConfValues) (past : Past) (a : AttemptId) → IsMade g c past → is_up past ≡ true → a.epoch.0 ≡ epoch past → why_of_task a (task_in (master_view g c past) a.task) ≡ why_at (stage a past)
task_tells g c past a m up now = by (is_task g past a.task) refl where
  counted : (b : Bool) → nat_le (attempts a.task past) a.number ≡ b → (if b then Some UnknownAttempt else why_by (state_of (live_view a.task past) a)) ≡ why_at (stage a past)
  counted true e = unknown_why (stage a past) (λ k. at_most (attempts a.task past) a.number e (known g c past m a k).1)
  counted false e = ap why_by (read_state g c past a m) ∙ known_why (stage a past) (counted_known g c past m a up now (less (attempts a.task past) a.number e))

  some : IsKnown (stage a past) → 0 < attempts a.task past
  some k = let l : a.number < attempts a.task past = (known g c past m a k).1 in omega arith

  by : (b : Bool) → is_task g past a.task ≡ b → why_of_task a (task_in (master_view g c past) a.task) ≡ why_at (stage a past)
  by true is = ap (why_of_task a) (task_read g c past a.task m is) ∙ counted (nat_le (attempts a.task past) a.number) refl
  by false is =
      ap (why_of_task a) (no_task_read g c past a.task is)
      ∙ unknown_why (stage a past) (λ k. true≢false (sym (scheduled_is_task g c past m a.task (counted_scheduled past a.task up (some k))) ∙ is))

pub tells : (g : Dag) (c : ConfValues) (past : Past) (a : AttemptId) → Goes g c past → is_up past ≡ true → why_in (master_view g c past) a ≡ why_after past a
tells g c past a goes up = by (nat_lt a.epoch.0 (epoch past)) refl where
  later : nat_lt a.epoch.0 (epoch past) ≡ false → (b : Bool) → nat_lt (epoch past) a.epoch.0 ≡ b
      → (if b then Some UnknownAttempt else why_of_task a (task_in (master_view g c past) a.task)) ≡ why_at (stage a past)
  later old true e = unknown_why (stage a past) (λ k. apart (epoch past) a.epoch.0 e (known g c past goes.sound.made a k).0)
  later old false e = task_tells g c past a goes.sound.made up (level a.epoch.0 (epoch past) old e)

  by : (b : Bool) → nat_lt a.epoch.0 (epoch past) ≡ b
      → (if b then Some OldEpoch else (if nat_lt (epoch past) a.epoch.0 then Some UnknownAttempt else why_of_task a (task_in (master_view g c past) a.task)))
      ≡ (if b then Some OldEpoch else why_at (stage a past))
  by true e = refl
  by false e = later e (nat_lt (epoch past) a.epoch.0) refl
