-- The words among pieces of a record, each with the count 1.
--     IsFirstCut bytes word after      the first piece of these bytes, and what is after the byte that ends it
use Rattle.std.specs.Prelude.{◌≡◌, ◌<◌, ℕ, Bool, List, [], ◌∷◌, ◌++◌, map, length, nat_lt, ◌==◌, ◌||◌}
use Rattle.std.specs.List.{filter, slice_split}
use Rattle.tez_record.specs.Line.{IsRecord}

abbrev pub parts_words : ℕ → Bool
parts_words b = b == 32 || b == 9

abbrev pub counted : List (List ℕ) → List (List ℕ)
counted pieces = map (λ w. w ++ 9 ∷ 49 ∷ []) (filter (λ w. nat_lt 0 (length w)) pieces)

abbrev pub counted_words : List ℕ → List (List ℕ)
counted_words r = counted (slice_split (λ b. b == 32 || b == 9) r)

pub record IsFirstCut (bytes word after : List ℕ) : Type 0 where
  pub split : slice_split parts_words bytes ≡ word ∷ slice_split parts_words after
  pub word_is_record : IsRecord word
  pub after_is_record : IsRecord after
  pub shorter : length after < length bytes
