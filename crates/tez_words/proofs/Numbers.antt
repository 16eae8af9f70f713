-- The number that is read of a word is the number that the word writes.
use Rattle.std.proofs.Common.{◌≡◌, ℕ, ◌<◌, ◌≤◌, ◌^◌, true, List, length, ◌&&◌, nat_le, rules, Some, None, ap, arith}
use Rattle.std.specs.List.{list_all}
use Rattle.std.specs.Char.{is_ascii_digit}
use Rattle.std.specs.declared.result.Result.TheVariants.{Err}
use Rattle.std.specs.Str.Parse.{IsNumeral, ParsesUnsigned, digits_value}
use Rattle.std.proofs.lemmas.Bool.{and_parts, and_from, leb-true, le-leb}
use Rattle.std.proofs.lemmas.Option.{cond_some}
use Rattle.std.proofs.lemmas.Str.Parse.{IsNumeralModel, numerals_by_value, parse_digits}
use Rattle.tez_words.specs.Commands.{IsNumber}
use Rattle.tez_words.specs.Reading.{is_numeral, is_between, number_in}
use Rattle.tez_words.proofs.Small.{by_option}

pub digits : IsNumeralModel (λ ds. list_all is_ascii_digit ds ≡ true) (digits_value 10)
digits = numerals_by_value (λ ds. list_all is_ascii_digit ds ≡ true) (search rules)

numeral_is : (w : List ℕ) → is_numeral w ≡ true → IsNumeral 10 w
numeral_is w h =
    let parts = and_parts (nat_le 1 (length w)) (list_all is_ascii_digit w) h in
    let some : 1 ≤ length w = leb-true 1 (length w) parts.0 in
    (omega arith, digits.to w parts.1)

is_numeral_of : (w : List ℕ) → IsNumeral 10 w → is_numeral w ≡ true
is_numeral_of w h = let some : 0 < length w = h.0 in and_from (nat_le 1 (length w)) (list_all is_ascii_digit w) (le-leb 1 (length w) (omega arith)) (digits.from w h.1)

pub to_number : (k a b n : ℕ) (w : List ℕ) → number_in k a b w ≡ Some n → IsNumber k a b w n
to_number k a b n w h =
    let found = cond_some (is_numeral w && (nat_le (length w) k && is_between a b (digits_value 10 w))) (digits_value 10 w) n h in
    let first = and_parts (is_numeral w) (nat_le (length w) k && is_between a b (digits_value 10 w)) found.0 in
    let second = and_parts (nat_le (length w) k) (is_between a b (digits_value 10 w)) first.1 in
    let third = and_parts (nat_le a (digits_value 10 w)) (nat_le (digits_value 10 w) b) second.1 in
    let value : digits_value 10 w ≡ n = found.1 in
    let low : a ≤ digits_value 10 w = leb-true _ _ third.0 in
    let high : digits_value 10 w ≤ b = leb-true _ _ third.1 in
    record { numeral = numeral_is w first.0; short = leb-true _ _ second.0; value = value; not_below = omega arith; not_above = omega arith }

pub from_number : (k a b n : ℕ) (w : List ℕ) → IsNumber k a b w n → number_in k a b w ≡ Some n
from_number k a b n w h =
    let value : digits_value 10 w ≡ n = h.value in
    let low : a ≤ n = h.not_below in
    let high : n ≤ b = h.not_above in
    let all : (is_numeral w && (nat_le (length w) k && is_between a b (digits_value 10 w))) ≡ true =
    and_from _ _ (is_numeral_of w h.numeral) (and_from _ _ (le-leb _ _ h.short) (and_from _ _ (le-leb a (digits_value 10 w) (omega arith)) (le-leb (digits_value 10 w) b (omega arith)))) in
    rw all (ap Some value)

-- a word whose number is too large for the type
pub no_number : {E : Type 0} (k a b : ℕ) (w : List ℕ) (e : E) → b < 2 ^ 64 → ParsesUnsigned 64 10 w (Err e) → None ≡ number_in k a b w
no_number k a b w e small fails = by_option (number_in k a b w)
    (λ n h. let is : IsNumber k a b w n = to_number k a b n w h in
    let value : digits_value 10 w ≡ n = is.value in
    let high : n ≤ b = is.not_above in
    let numeral = is.numeral in
    parse_digits digits 64 w (Err e) fails (digits.from w numeral.1) (numeral.0, omega arith))
