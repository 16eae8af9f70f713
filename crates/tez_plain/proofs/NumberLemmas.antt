-- Sums of numbers, and numbers as texts.
--     is_within, sum_written      a sum of some numbers of 64 bits is not far from 0
--     signed_is_record            the text of a number is a record
use Rattle.std.proofs.Common.{pos, negsuc, ℕ, suc, ◌+◌, ◌*◌, ◌<◌, ◌^◌, ◌%◌, ◌==◌, false, [], ◌∷◌, refl, ◌∙◌, arith, ne_eqb, decimal, ℤ, ◌+ℤ◌, ◌≤ℤ◌, neg_ℤ}
use Rattle.std.specs.Fmt.{signed_decimal}
use Rattle.std.specs.List.{list_any}
use mir.Val.{SFits}
use mir.Syntax.{w64, w128}
use Rattle.std.proofs.lemmas.Int.{ints}
use Rattle.std.proofs.lemmas.Fmt.{decimal_by_steps_wide}
use Rattle.std.proofs.lemmas.Bool.{or_from}
use Rattle.std.proofs.lemmas.List.Folds.{list_any-append}
use Rattle.tez_record.specs.Line.{IsRecord}

-- at most n away from 0
pub record IsWithin (n : ℕ) (z : ℤ) : Type 0 where
  pub low : neg_ℤ (pos n) ≤ℤ z
  pub high : z ≤ℤ pos n

pub zero_within : IsWithin (2 ^ 63 * 0) (pos 0)
zero_within = record { low = omega (arith, ints); high = omega (arith, ints) }

i64_within : (z : ℤ) → SFits w64 z → IsWithin (2 ^ 63) z
i64_within z f = record { low = omega (arith, ints); high = omega (arith, ints) }

-- one number more
pub add_within : (n : ℕ) (x y : ℤ) → IsWithin (2 ^ 63 * n) x → SFits w64 y → IsWithin (2 ^ 63 * (n + 1)) (x +ℤ y)
add_within n x y h f = let k = i64_within y f in record { low = omega (arith, ints); high = omega (arith, ints) }

within_fits : (n : ℕ) (z : ℤ) → n < 2 ^ 127 → IsWithin n z → SFits w128 z
within_fits n (pos k) low h = record { sfits = omega (arith, ints) }
within_fits n (negsuc k) low h = record { sfits = omega (arith, ints) }

-- a sum of fewer than 2^64 - 1 numbers and one more
pub sum_fits : (n : ℕ) (x y : ℤ) → n + 1 < 2 ^ 64 → IsWithin (2 ^ 63 * n) x → SFits w64 y → SFits w128 (x +ℤ y)
sum_fits n x y low h f = within_fits (2 ^ 63 * (n + 1)) (x +ℤ y) (omega arith) (add_within n x y h f)

digit_is_record : (d : ℕ) → IsRecord ((48 + d) ∷ [])
digit_is_record d = or_from (48 + d == 10) false (ne_eqb (48 + d) 10 (λ e. omega arith)) refl

pub decimal_is_record : (n : ℕ) → n < 10 ^ 64 → IsRecord (decimal n)
decimal_is_record n low = decimal_by_steps_wide (λ m ds. IsRecord ds) (λ m small. digit_is_record m)
    (λ m ds big all. list_any-append (λ b. b == 10) ds ((48 + m % 10) ∷ []) ∙ or_from (list_any (λ b. b == 10) ds) (list_any (λ b. b == 10) ((48 + m % 10) ∷ [])) all (digit_is_record (m % 10))) n low

pub signed_is_record : (z : ℤ) → SFits w128 z → IsRecord (signed_decimal z)
signed_is_record (pos n) fits = decimal_is_record n (let low : n < 2 ^ 127 = fits.sfits in omega arith)
signed_is_record (negsuc n) fits = or_from (45 == 10) (list_any (λ b. b == 10) (decimal (suc n))) refl (decimal_is_record (suc n) (let low : n < 2 ^ 127 = fits.sfits in omega arith))
