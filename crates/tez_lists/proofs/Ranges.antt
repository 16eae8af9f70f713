-- The numbers from one on.
--     one_in_range        of the numbers below n, exactly one is v
--     all_below           each number in the range is below its end
--     at_below            what holds of each number in the range holds of one below its end
--     range_more          the range that is one longer has one number more, at its end
use Rattle.std.proofs.Common.{List, [], ◌∷◌, ◌++◌, add-zero, add-one, ◌≡◌, ℕ, zero, suc, ◌+◌, ◌<◌, ◌≤◌, ◌==◌, cond, refl, sym, ap, ◌∙◌, subst, arith, count_by, eqb-true, ne_eqb}
use Rattle.std.specs.List.{range_with_len, AllByRecursion}
use Rattle.std.proofs.lemmas.Bool.{eqb-false}
use Rattle.std.proofs.lemmas.List.Sums.{sum_by-cons}
use Rattle.tez_lists.proofs.Cases.{cases}

none_from : (v a n : ℕ) → v < a → count_by (λ p. v == p) (range_with_len a n) ≡ 0
none_from v a zero h = refl
none_from v a (suc n) h =
    sum_by-cons (λ p. cond (v == p) 1 0) a (range_with_len (a + 1) n)
    ∙ ap (λ b. cond b 1 0 + count_by (λ p. v == p) (range_with_len (a + 1) n)) (ne_eqb v a (λ e. omega arith))
    ∙ ap (λ m. 0 + m) (none_from v (a + 1) n (omega arith))

one_from : (v a n : ℕ) → a ≤ v → v < a + n → count_by (λ p. v == p) (range_with_len a n) ≡ 1
one_from v a zero low high = absurd (omega arith)
one_from v a (suc n) low high =
    sum_by-cons (λ p. cond (v == p) 1 0) a (range_with_len (a + 1) n)
    ∙ cases (v == a)
    (λ e. ap (λ b. cond b 1 0 + count_by (λ p. v == p) (range_with_len (a + 1) n)) e
    ∙ ap (λ m. 1 + m) (none_from v (a + 1) n (omega (arith, eqb-true v a e))))
    (λ e. ap (λ b. cond b 1 0 + count_by (λ p. v == p) (range_with_len (a + 1) n)) e
    ∙ ap (λ m. 0 + m) (one_from v (a + 1) n (let ne : v ≡ a → ⊥ = eqb-false v a e in omega arith) (omega arith)))

pub one_in_range : (v n : ℕ) → v < n → count_by (λ p. v == p) (range_with_len 0 n) ≡ 1
one_in_range v n h = one_from v 0 n (omega arith) (omega arith)

all_from : (a n : ℕ) → (P : ℕ → Type 0) → ((v : ℕ) → a ≤ v → v < a + n → P v) → AllByRecursion P (range_with_len a n)
all_from a zero P h = tt
all_from a (suc n) P h = (h a (omega arith) (omega arith), all_from (a + 1) n P (λ v low high. h v (omega arith) (omega arith)))

pub all_below : (n : ℕ) (P : ℕ → Type 0) → ((v : ℕ) → v < n → P v) → AllByRecursion P (range_with_len 0 n)
all_below n P h = all_from 0 n P (λ v low high. h v (omega arith))

at_from : (v a n : ℕ) (P : ℕ → Type 0) → AllByRecursion P (range_with_len a n) → a ≤ v → v < a + n → P v
at_from v a zero P all low high = absurd (omega arith)
at_from v a (suc n) P all low high = cases (v == a)
    (λ e. subst P (sym (eqb-true v a e)) all.0)
    (λ e. at_from v (a + 1) n P all.1 (let ne : v ≡ a → ⊥ = eqb-false v a e in omega arith) (omega arith))

pub at_below : (v n : ℕ) (P : ℕ → Type 0) → AllByRecursion P (range_with_len 0 n) → v < n → P v
at_below v n P all h = at_from v 0 n P all (omega arith) (omega arith)

range_step : (a n : ℕ) → range_with_len a (suc n) ≡ range_with_len a n ++ (a + n) ∷ []
range_step a zero = ap (λ x. x ∷ []) (sym (add-zero a))
range_step a (suc n) = let last : a + 1 + n ≡ a + suc n = omega arith in ap (λ (rest : List ℕ). a ∷ rest) (range_step (a + 1) n ∙ ap (λ x. range_with_len (a + 1) n ++ x ∷ []) last)

pub range_more : (a n : ℕ) → range_with_len a (n + 1) ≡ range_with_len a n ++ (a + n) ∷ []
range_more a n = ap (range_with_len a) (add-one n) ∙ range_step a n
