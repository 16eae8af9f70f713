-- Places that are left one after another.
use Rattle.std.proofs.Common.{◌≡◌, ℕ, ◌+◌, ◌-◌, ◌<◌, ◌≤◌, suc, ◌∷◌, refl, ap, arith}
use Rattle.tez_lists.specs.Numbers.{numbers_from}
use Rattle.tez_inflight.specs.Seats.{SeatsState, after_leave, after_leaves}

run_step : (p e k : ℕ) → e - p ≡ suc k → e - (p + 1) ≡ k → numbers_from p (e - p) ≡ p ∷ numbers_from (p + 1) (e - (p + 1))
run_step p e k h l = let s : suc p ≡ p + 1 = omega arith in rw (h, l) (ap (λ q. p ∷ numbers_from q k) s)

pub leaves_step : (s : SeatsState) (p e : ℕ) → p < e → after_leaves s (numbers_from p (e - p)) ≡ after_leaves (after_leave s p) (numbers_from (p + 1) (e - (p + 1)))
leaves_step s p e l = ap (after_leaves s) (run_step p e (e - (p + 1)) (omega arith) refl)

pub leaves_end : (s : SeatsState) (p e : ℕ) → e ≤ p → after_leaves s (numbers_from p (e - p)) ≡ s
leaves_end s p e l = let z : e - p ≡ 0 = omega arith in ap (λ n. after_leaves s (numbers_from p n)) z
