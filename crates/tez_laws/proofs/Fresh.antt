-- The numbers of attempts are fresh in the whole trace, since epochs rise.
use Rattle.std.specs.Prelude.{◌≡◌, ◌⊎◌, ℕ, suc, ◌+◌, ◌<◌, ◌||◌, Bool, true, false, if◌then◌else◌, [], ◌∷◌, refl}
use Rattle.std.proofs.Common.{inl, inr, ap, arith, subst}
use Rattle.tez_ids.specs.declared.AttemptId.{AttemptId}
use Rattle.tez_ids.specs.Same.{same_task, same_attempt}
use Rattle.tez_plan.specs.Dag.{Dag}
use Rattle.tez_conf.specs.declared.values.ConfValues.{ConfValues}
use Rattle.tez_events.specs.declared.Entry.TheVariants.{Opened, Over, Queued}
use Rattle.tez_history.specs.History.{Past, epoch, attempts}
use Rattle.tez_history.specs.Derived.{next_attempt}
use Rattle.tez_history.specs.Follows.{IsMade}
use Rattle.tez_laws.specs.Laws.{was_ever_queued, NextNeverQueued}
use Rattle.tez_laws.proofs.Same.{same_attempt-true, same_task-refl}
use Rattle.tez_laws.proofs.Places.{IsCounted, new_counted}

-- an attempt of an earlier epoch, or of this one with a number that was counted
abbrev pub IsOld : AttemptId → ℕ → ℕ → Type 0
IsOld a epoch count = (a.epoch.0 < epoch) ⊎ IsCounted a epoch count

pub old_opened : (a : AttemptId) (e f n k : ℕ) → IsOld a e n → e < f → IsOld a f k
old_opened a e f n k (inl low) above = inl (omega arith)
old_opened a e f n k (inr at) above = inl (let is : a.epoch.0 ≡ e = at.0 in omega arith)

pub old_queued : (a : AttemptId) (e n k : ℕ) → IsOld a e n → IsOld a e (k + n)
old_queued a e n k (inl low) = inl low
old_queued a e n k (inr at) = inr (at.0, (let is : a.number < n = at.1 in omega arith))

pub new_never : (past : Past) (a : AttemptId) → a ≡ next_attempt past a.task → IsOld a (epoch past) (attempts a.task past) → ⊥
new_never past a new (inl low) = let is : a.epoch.0 ≡ epoch past = ap (λ x. x.epoch.0) new in omega arith
new_never past a new (inr at) = let is : a.number ≡ attempts a.task past = ap (λ x. x.number) new in let low : a.number < attempts a.task past = at.1 in omega arith

queued_case : (b a : AttemptId) (s q : Bool) (e n : ℕ) → same_attempt b a ≡ s → (b ≡ a → IsCounted a e (1 + n)) → (q ≡ true → IsOld a e n) → (s || q) ≡ true
    → IsOld a e ((if same_task b.task a.task then 1 else 0) + n)
queued_case b a true q e n same new ih h =
    let at : b ≡ a = same_attempt-true b a same in
    let one : same_task b.task a.task ≡ true = subst (λ x. same_task b.task x.task ≡ true) at (same_task-refl b.task) in
    inr (subst (λ x. IsCounted a e ((if x then 1 else 0) + n)) (Rattle.std.proofs.Common.sym one) (new at))
queued_case b a false q e n same new ih h = old_queued a e n (if same_task b.task a.task then 1 else 0) (ih h)

queued_old : (g : Dag) (c : ConfValues) (past : Past) → IsMade g c past → (a : AttemptId) → was_ever_queued a past ≡ true → IsOld a (epoch past) (attempts a.task past)
queued_old g c [] m a h = cc
queued_old g c (Opened n ∷ past) m a h = old_opened a (epoch past) n.0 (attempts a.task past) 0 (queued_old g c past m.1 a h) m.0.1
queued_old g c (Over ∷ past) m a h = old_opened a (epoch past) (suc (epoch past)) (attempts a.task past) 0 (queued_old g c past m.1 a h) (omega arith)
queued_old g c (Queued b ∷ past) m a h =
    queued_case b a (same_attempt b a) (was_ever_queued a past) (epoch past) (attempts a.task past) refl (new_counted past b a m.0.2) (queued_old g c past m.1 a) h
queued_old g c (_ ∷ past) m a h = queued_old g c past m.1 a h

-- the next attempt was never queued
pub never_queued : (g : Dag) (c : ConfValues) (past : Past) → IsMade g c past → NextNeverQueued past
never_queued g c past m t = by (was_ever_queued (next_attempt past t) past) refl where
  by : (b : Bool) → was_ever_queued (next_attempt past t) past ≡ b → b ≡ false
  by true e = absurd (new_never past (next_attempt past t) refl (queued_old g c past m (next_attempt past t) e))
  by false e = refl
