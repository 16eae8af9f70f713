-- Numbered elements that pass a test have different numbers.
use Rattle.std.proofs.Common.{◌≡◌, ℕ, ◌+◌, ◌<◌, ◌==◌, Bool, true, false, List, [], ◌∷◌, map, filter, refl, arith}
use Rattle.std.specs.List.{list_any, enumerate_from}
use Rattle.std.proofs.lemmas.Bool.{or_from}
use Rattle.tez_lists.proofs.Cases.{cases}
use Rattle.tez_inflight.specs.Seats.{numbers_differ}

none_before : {X : Type 0} (test : ℕ × X → Bool) (k j : ℕ) (xs : List X) → k < j → list_any (λ m. m == k) (map (λ e. e.0) (filter test (enumerate_from j xs))) ≡ false
none_before test k j [] l = refl
none_before test k j (x ∷ xs) l =
    let rest = none_before test k (j + 1) xs (omega arith) in
    let other : (j == k) ≡ false = grind arith in
    cases (test (j, x))
    (λ t. rw t (or_from (j == k) (list_any (λ m. m == k) (map (λ e. e.0) (filter test (enumerate_from (j + 1) xs)))) other rest))
    (λ f. rw f rest)

pub numbers_of_tested : {X : Type 0} (test : ℕ × X → Bool) (k : ℕ) (xs : List X) → numbers_differ (map (λ e. e.0) (filter test (enumerate_from k xs))) ≡ true
numbers_of_tested test k [] = refl
numbers_of_tested test k (x ∷ xs) =
    let rest = numbers_of_tested test (k + 1) xs in
    let fresh = none_before test k (k + 1) xs (omega arith) in
    cases (test (k, x))
    (λ t. rw t (rw fresh rest))
    (λ f. rw f rest)
