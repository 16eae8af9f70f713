-- The generated text: each word comes of a state, and each state of the one before.
--     next x              the state after x
--     word_of x           the word of a state
--     third x             the third state after x
--     line_after x        the words of the three states after x
--     text_after x n      n lines, from the states after x on
use Rattle.std.specs.Prelude.{ℕ, zero, suc, ◌+◌, ◌*◌, ◌/◌, ◌%◌, ◌^◌, List, [], ◌++◌, codes, decimal}

unfoldable pub next : ℕ → ℕ
next x = (x * 1103515245 + 12345) % 2 ^ 31

unfoldable pub word_of : ℕ → List ℕ
word_of x = codes "w" ++ decimal (x / 65536 % 1000)

unfoldable pub third : ℕ → ℕ
third x = next (next (next x))

unfoldable pub line_after : ℕ → List ℕ
line_after x = word_of (next x) ++ codes " " ++ word_of (next (next x)) ++ codes " " ++ word_of (third x) ++ codes "\n"

abbrev pub text_after : ℕ → ℕ → List ℕ
text_after x zero = []
text_after x (suc n) = line_after x ++ text_after (third x) n
