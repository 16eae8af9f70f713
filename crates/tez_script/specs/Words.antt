-- The words of a line and their numbers.
--     words line              the pieces between spaces
--     words_behind rest       the words of what is behind a word: nothing, or a space and more words
--     number w                what 1 to 10 digits say
--     number_where test w     the same, where it passes a test
use Rattle.std.specs.Prelude.{ℕ, ◌+◌, ◌*◌, ◌-◌, ◌==◌, ◌&&◌, nat_le, Bool, List, [], ◌∷◌, length, fold, Option, Some, None, option_and_then, if◌then◌else◌}
use Rattle.std.specs.List.{slice_split, list_all}
use Rattle.std.specs.Char.{is_ascii_digit}

abbrev pub words : List ℕ → List (List ℕ)
words line = slice_split (λ b. b == 32) line

abbrev pub words_behind : List ℕ → List (List ℕ)
words_behind [] = []
words_behind (space ∷ line) = words line

abbrev pub number : List ℕ → Option ℕ
number w = if list_all is_ascii_digit w && nat_le 1 (length w) && nat_le (length w) 10
    then Some (fold (λ n d. n * 10 + (d - 48)) 0 w) else None

abbrev pub where_it : (ℕ → Bool) → ℕ → Option ℕ
where_it test n = if test n then Some n else None

abbrev pub number_where : (ℕ → Bool) → List ℕ → Option ℕ
number_where test w = option_and_then (where_it test) (number w)

abbrev pub is_within : ℕ → ℕ → ℕ → Bool
is_within least most n = nat_le least n && nat_le n most
