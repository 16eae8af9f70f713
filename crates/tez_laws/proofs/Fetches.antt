-- At its order an attempt has fetched each input once in the whole trace, since the numbers of attempts are fresh and epochs rise.
use Rattle.std.specs.Prelude.{◌≡◌, ◌⊎◌, ℕ, zero, suc, ◌+◌, ◌≤◌, ◌==◌, ◌&&◌, ◌||◌, Bool, true, false, if◌then◌else◌, [], ◌∷◌, Option, Some, refl}
use Rattle.std.proofs.Common.{inl, inr, ap, sym, ◌∙◌, arith, subst, eq-eqb}
use Rattle.std.proofs.lemmas.Bool.{eqb-true}
use Rattle.tez_ids.specs.declared.AttemptId.{AttemptId}
use Rattle.tez_ids.specs.Same.{same_task, same_attempt}
use Rattle.tez_plan.specs.Dag.{Dag}
use Rattle.tez_conf.specs.declared.values.ConfValues.{ConfValues}
use Rattle.tez_events.specs.declared.Entry.{Entry}
use Rattle.tez_events.specs.declared.Entry.TheVariants.{Opened, Over, Queued, Placed, Fetched, Ordered, Succeeded, Failed, Killed, Stopped}
use Rattle.tez_history.specs.History.{Past, Stage, InQueue, Waits, Ended, stage, epoch, attempts, is_fetched, is_attempt}
use Rattle.tez_history.specs.Derived.{next_attempt, inputs, has_fetched}
use Rattle.tez_history.specs.Steps.{winner_behind}
use Rattle.tez_history.specs.Rules.{fetches, fetches_right}
use Rattle.tez_history.specs.Follows.{MayFollow, IsMade}
use Rattle.tez_laws.specs.Laws.{IsKnown, Obeys}
use Rattle.tez_laws.proofs.Same.{same_attempt-true, same_attempt-refl}
use Rattle.tez_laws.proofs.OneLive.{killed_placed}
use Rattle.tez_laws.proofs.Places.{IsCounted, known, placed_known, running_known, waiting_known, sent_known}
use Rattle.tez_laws.proofs.StepLaw.{both}
use Rattle.tez_laws.proofs.Fresh.{IsOld, old_opened, old_queued, new_never}
use Rattle.tez_laws.proofs.Sinks.{all_less}
use Rattle.tez_laws.proofs.Obeying.{obeys}

-- ---- who has fetched was queued, in an earlier epoch or in this one

fetched_case : (x y : Bool) (n : ℕ) → 1 ≤ (if x && y then 1 else 0) + n → (x ≡ true) ⊎ (1 ≤ n)
fetched_case true y n h = inl refl
fetched_case false y n h = inr (let k : 1 ≤ 0 + n = h in omega arith)

fetched_old : (g : Dag) (c : ConfValues) (past : Past) → IsMade g c past → (a : AttemptId) (e i : ℕ) → 1 ≤ fetches a e i past → IsOld a (epoch past) (attempts a.task past)
fetched_old g c [] m a e i h = absurd (omega arith)
fetched_old g c (Opened n ∷ past) m a e i h = old_opened a (epoch past) n.0 (attempts a.task past) 0 (fetched_old g c past m.1 a e i h) m.0.1
fetched_old g c (Over ∷ past) m a e i h = old_opened a (epoch past) (suc (epoch past)) (attempts a.task past) 0 (fetched_old g c past m.1 a e i h) (omega arith)
fetched_old g c (Queued b ∷ past) m a e i h = old_queued a (epoch past) (attempts a.task past) (if same_task b.task a.task then 1 else 0) (fetched_old g c past m.1 a e i h)
fetched_old g c (Fetched b d j w ∷ past) m a e i h =
    by (fetched_case (same_attempt b a) ((d.0 == e) && (j == i)) (fetches a e i past) h) (λ k. fetched_old g c past m.1 a e i k) where
      by : (same_attempt b a ≡ true) ⊎ (1 ≤ fetches a e i past) → (1 ≤ fetches a e i past → IsOld a (epoch past) (attempts a.task past)) → IsOld a (epoch past) (attempts a.task past)
      by (inl same) ih = inr (subst (λ x. IsCounted x (epoch past) (attempts x.task past)) (same_attempt-true b a same) (known g c past m.1 b (waiting_known (stage b past) m.0.0)))
      by (inr k) ih = ih k
fetched_old g c (_ ∷ past) m a e i h = fetched_old g c past m.1 a e i h

-- ---- what is fetched was fetched at least once

fetched_once : (x y : Bool) (n : ℕ) → (y ≡ true → 1 ≤ n) → (x || y) ≡ true → 1 ≤ (if x then 1 else 0) + n
fetched_once true y n ih h = omega arith
fetched_once false y n ih h = let k : 1 ≤ n = ih h in omega arith

fetched_counts : (past : Past) (a : AttemptId) (e i : ℕ) → is_fetched a e i past ≡ true → 1 ≤ fetches a e i past
fetched_counts [] a e i h = cc
fetched_counts (Opened _ ∷ past) a e i h = cc
fetched_counts (Over ∷ past) a e i h = cc
fetched_counts (Stopped _ ∷ past) a e i h = cc
fetched_counts (Fetched b d j w ∷ past) a e i h =
    fetched_once (same_attempt b a && ((d.0 == e) && (j == i))) (is_fetched a e i past) (fetches a e i past) (fetched_counts past a e i) h
fetched_counts (_ ∷ past) a e i h = fetched_counts past a e i h

-- ---- a known attempt has fetched an input once, or not at all

abbrev IsOnce : ℕ → Bool → Type 0
IsOnce n fetched = n ≡ (if fetched then 1 else 0)

none_once : (n : ℕ) (f : Bool) → (1 ≤ n → ⊥) → (f ≡ true → 1 ≤ n) → IsOnce n f
none_once n true not k = absurd (not (k refl))
none_once zero false not k = refl
none_once (suc n) false not k = absurd (not (omega arith))

one_more : (x y : Bool) (n : ℕ) → (x ≡ true → y ≡ false) → IsOnce n y → IsOnce ((if x then 1 else 0) + n) (x || y)
one_more true true n fresh ih = let k : true ≡ false = fresh refl in cc
one_more true false n fresh ih = let k : n ≡ 0 = ih in omega arith
one_more false y n fresh ih = let k : n ≡ (if y then 1 else 0) = ih in omega arith

was_known : (b a : AttemptId) (x s : Stage) → (b ≡ a → IsKnown s) → IsKnown (if same_attempt b a then x else s) → IsKnown s
was_known b a x s was h = by (same_attempt b a) refl h where
  by : (same : Bool) → same_attempt b a ≡ same → IsKnown (if same then x else s) → IsKnown s
  by true e k = was (same_attempt-true b a e)
  by false e k = k

along : (past : Past) (b a : AttemptId) → IsKnown (stage b past) → b ≡ a → IsKnown (stage a past)
along past b a h e = subst (λ x. IsKnown (stage x past)) e h

unfetched : (past : Past) (b a : AttemptId) (d j e i : ℕ) → is_fetched b d j past ≡ false → (same_attempt b a && ((d == e) && (j == i))) ≡ true → is_fetched a e i past ≡ false
unfetched past b a d j e i fresh h =
    let k = both {x = same_attempt b a} h in
    let l = both {x = d == e} k.1 in
    subst (λ x. is_fetched x e i past ≡ false) (same_attempt-true b a k.0)
    (subst (λ x. is_fetched b x i past ≡ false) (eqb-true d e l.0) (subst (λ x. is_fetched b d x past ≡ false) (eqb-true j i l.1) fresh))

pub once : (g : Dag) (c : ConfValues) (past : Past) → IsMade g c past → (a : AttemptId) (e i : ℕ) → IsKnown (stage a past) → IsOnce (fetches a e i past) (is_fetched a e i past)
once g c [] m a e i h = absurd h
once g c (Opened _ ∷ past) m a e i h = absurd h
once g c (Over ∷ past) m a e i h = absurd h
once g c (Stopped _ ∷ past) m a e i h = absurd h
once g c (Queued b ∷ past) m a e i h = by (same_attempt b a) refl h (λ k. once g c past m.1 a e i k) where
  by : (same : Bool) → same_attempt b a ≡ same → IsKnown (if same then InQueue else stage a past) → (IsKnown (stage a past) → IsOnce (fetches a e i past) (is_fetched a e i past))
      → IsOnce (fetches a e i past) (is_fetched a e i past)
  by true t k ih =
      let new : a ≡ next_attempt past a.task = subst (λ x. x ≡ next_attempt past x.task) (same_attempt-true b a t) m.0.2 in
      none_once (fetches a e i past) (is_fetched a e i past) (λ some. new_never past a new (fetched_old g c past m.1 a e i some)) (fetched_counts past a e i)
  by false t k ih = ih k
once g c (Placed b k p ∷ past) m a e i h = once g c past m.1 a e i (was_known b a (Waits p) (stage a past) (along past b a (subst IsKnown (sym m.0.0) tt)) h)
once g c (Ordered b ∷ past) m a e i h = once g c past m.1 a e i (sent_known (same_attempt b a) (stage a past) h)
once g c (Succeeded b ∷ past) m a e i h = once g c past m.1 a e i (was_known b a Ended (stage a past) (along past b a (running_known (stage b past) m.0)) h)
once g c (Failed b ∷ past) m a e i h = once g c past m.1 a e i (was_known b a Ended (stage a past) (along past b a (running_known (stage b past) m.0)) h)
once g c (Killed b cause ∷ past) m a e i h =
    once g c past m.1 a e i (was_known b a Ended (stage a past) (along past b a (placed_known (stage b past) (killed_placed g c past b cause m.0))) h)
once g c (Fetched b d j w ∷ past) m a e i h =
    one_more (same_attempt b a && ((d.0 == e) && (j == i))) (is_fetched a e i past) (fetches a e i past) (unfetched past b a d.0 j e i m.0.1) (once g c past m.1 a e i h)
once g c (_ ∷ past) m a e i h = once g c past m.1 a e i h

-- ---- the rule

from_winner : (o : Option AttemptId) (w : AttemptId) → o ≡ Some w → is_attempt w o ≡ true
from_winner o w e = ap (is_attempt w) e ∙ same_attempt-refl w

counted_one : (n : ℕ) (f : Bool) → IsOnce n f → f ≡ true → (n == 1) ≡ true
counted_one n true h e = eq-eqb n 1 h
counted_one n false h e = cc

fetches_follow : (g : Dag) (c : ConfValues) (past : Past) (e : Entry) → IsMade g c past → MayFollow g c past e → fetches_right g c past e ≡ true
fetches_follow g c past (Fetched a e i w) made m = from_winner (winner_behind g past a e.0 i) w m.2
fetches_follow g c past (Ordered a) made m =
    all_less (has_fetched past a) (λ k. fetches a k.0 k.2 past == 1) (inputs g past a)
    (λ k f. counted_one (fetches a k.0 k.2 past) (is_fetched a k.0 k.2 past) (once g c past made a k.0 k.2 (waiting_known (stage a past) m.0)) f) m.1
fetches_follow g c past _ made m = refl

pub fetches_obeyed : (g : Dag) (c : ConfValues) (past : Past) → IsMade g c past → Obeys fetches_right g c past
fetches_obeyed = obeys fetches_right fetches_follow
