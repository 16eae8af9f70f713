-- Sums over numbers, of which one changes.
--     sum_below        sums of what agrees on the numbers of a range
--     sum_more         the sum where one number has so much more
use Rattle.std.specs.Prelude.{◌≡◌, ℕ, zero, suc, ◌+◌, ◌*◌, ◌<◌, ◌≤◌, ◌==◌, ◌&&◌, nat_lt, nat_le, Bool, cond, refl}
use Rattle.std.proofs.Common.{ap, ap₂, sym, ◌∙◌, arith, sum_by, count_by}
use Rattle.std.proofs.lemmas.Bool.Decides.{nat_tests}
use Rattle.std.proofs.lemmas.List.Sums.{sum_by-cons}
use Rattle.tez_lists.specs.Numbers.{numbers_from}
use Rattle.tez_lists.proofs.Sums.{sum_by-ext, sum_by-plus, sum_by-cond}

pub sum_below : (f h : ℕ → ℕ) (a n : ℕ) → ((i : ℕ) → a ≤ i → i < a + n → f i ≡ h i) → sum_by f (numbers_from a n) ≡ sum_by h (numbers_from a n)
sum_below f h a zero same = refl
sum_below f h a (suc n) same =
    sum_by-cons f a (numbers_from (suc a) n)
    ∙ ap₂ (λ x y. x + y) (same a (omega arith) (omega arith)) (sum_below f h (suc a) n (λ i l b. same i (omega arith) (omega arith)))
    ∙ sym (sum_by-cons h a (numbers_from (suc a) n))

pub sum_none : (f : ℕ → ℕ) (a n : ℕ) → ((i : ℕ) → f i ≡ 0) → sum_by f (numbers_from a n) ≡ 0
sum_none f a zero none = refl
sum_none f a (suc n) none = sum_by-cons f a (numbers_from (suc a) n) ∙ ap₂ (λ x y. x + y) (none a) (sum_none f (suc a) n none)

-- ---- one number among those of a range

abbrev one_if : Bool → ℕ
one_if b = cond b 1 0

one_more : (x a n : ℕ) → one_if (x == a) + one_if (nat_le (suc a) x && nat_lt x (suc a + n)) ≡ one_if (nat_le a x && nat_lt x (a + suc n))
one_more x a n = grind (arith, nat_tests)

none_there : (x a : ℕ) → 0 ≡ one_if (nat_le a x && nat_lt x (a + 0))
none_there x a = grind (arith, nat_tests)

count_at : (x a n : ℕ) → count_by (λ p. x == p) (numbers_from a n) ≡ one_if (nat_le a x && nat_lt x (a + n))
count_at x a zero = none_there x a
count_at x a (suc n) =
    sum_by-cons (λ p. cond (x == p) 1 0) a (numbers_from (suc a) n)
    ∙ ap (λ m. one_if (x == a) + m) (count_at x (suc a) n)
    ∙ one_more x a n

inside : (x n : ℕ) → x < n → one_if (nat_le 0 x && nat_lt x (0 + n)) ≡ 1
inside x n h = grind (arith, nat_tests)

pub sum_more : (f h : ℕ → ℕ) (j n k : ℕ) → j < n → ((i : ℕ) → h i ≡ f i + cond (j == i) k 0) → sum_by h (numbers_from 0 n) ≡ sum_by f (numbers_from 0 n) + k
sum_more f h j n k low more =
    let one : count_by (λ p. j == p) (numbers_from 0 n) ≡ 1 = count_at j 0 n ∙ inside j n low in
    let all : sum_by (λ i. cond (j == i) k 0) (numbers_from 0 n) ≡ k = sum_by-cond (λ i. j == i) k (numbers_from 0 n) ∙ ap (λ m. m * k) one ∙ omega arith in
    sum_by-ext h (λ i. f i + cond (j == i) k 0) (numbers_from 0 n) more
    ∙ sum_by-plus f (λ i. cond (j == i) k 0) (numbers_from 0 n)
    ∙ ap (λ m. sum_by f (numbers_from 0 n) + m) all
