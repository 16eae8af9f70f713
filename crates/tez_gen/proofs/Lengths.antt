-- How long the text is at most.
use Rattle.std.specs.Prelude.{ℕ, zero, suc, ◌*◌, ◌/◌, ◌%◌, ◌<◌, ◌≤◌, ◌++◌, length, codes, decimal}
use Rattle.std.proofs.Common.{arith}
use Rattle.std.proofs.lemmas.Fmt.{length-decimal-le}
use Rattle.std.proofs.lemmas.List.{length-append}
use Rattle.tez_gen.specs.Generate.{line_after, next, text_after, third, word_of}

number_length : (n : ℕ) → n < 1000 → length (decimal n) ≤ 3
number_length n small = length-decimal-le 3 n (omega arith) small (omega arith)

word_length : (x : ℕ) → length (word_of x) ≤ 4
unfolding word_of
word_length x =
    let number = number_length (x / 65536 % 1000) (omega arith) in
    omega (arith, number, length-append (codes "w") (decimal (x / 65536 % 1000)))

line_length : (x : ℕ) → length (line_after x) ≤ 15
unfolding line_after
line_length x =
    let first = word_of (next x) in
    let second = word_of (next (next x)) in
    let last = word_of (third x) in
    let one = first ++ codes " " in
    let two = one ++ second in
    let gap = two ++ codes " " in
    omega (
      arith,
      word_length (next x),
      word_length (next (next x)),
      word_length (third x),
      length-append first (codes " "),
      length-append one second,
      length-append two (codes " "),
      length-append gap last,
      length-append (gap ++ last) (codes "\n"),
    )

pub text_length : (x n : ℕ) → length (text_after x n) ≤ 15 * n
text_length x zero = omega arith
text_length x (suc n) = omega (arith, line_length x, text_length (third x) n, length-append (line_after x) (text_after (third x) n))
