-- What stands at a place of a list that a function gives by number.
use Rattle.std.specs.Prelude.{◌≡◌, ℕ, zero, suc, ◌<◌, ◌≤◌, map, slice_get, Some, None, refl}
use Rattle.std.proofs.Common.{ap, ◌∙◌, arith, zero-add}
use Rattle.tez_lists.specs.Numbers.{numbers_from}
use Rattle.tez_lists.proofs.Tables.{get_each}
use Rattle.tez_history.specs.Shape.{numbers_below}

get_past : {X : Type 0} (h : ℕ → X) (n k p : ℕ) → k ≤ p → slice_get (map h (numbers_from n k)) p ≡ None
get_past h n zero p l = refl
get_past h n (suc k) zero l = absurd (omega arith)
get_past h n (suc k) (suc p) l = get_past h (suc n) k p (omega arith)

pub get_below : {X : Type 0} (h : ℕ → X) (k p : ℕ) → p < k → slice_get (map h (numbers_below k)) p ≡ Some (h p)
get_below h k p b = get_each h 0 k p b ∙ ap (λ q. Some (h q)) (zero-add p)

pub get_above : {X : Type 0} (h : ℕ → X) (k p : ℕ) → k ≤ p → slice_get (map h (numbers_below k)) p ≡ None
get_above h k p l = get_past h 0 k p l
