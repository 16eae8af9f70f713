-- Steps, each on every record by itself.
--     step_rows s r        what step s makes of the record r
--     is_bad_for s r       s reads a field of r that is no number
--     run steps rs         the steps in order
use Rattle.std.specs.Prelude.{ℕ, Bool, true, false, not, ◌&&◌, ◌||◌, ◌==◌, List, [], ◌∷◌, ◌++◌, map, length, int_lt, nat_lt, is_none, if◌then◌else◌}
use Rattle.std.specs.List.{filter, flat_map, slice_split}
use Rattle.std.specs.Option.{option_map_or}
use Rattle.std.specs.Str.{bytes_eq}
use Rattle.tez_record.specs.Field.{field, key, number}
use Rattle.tez_record.specs.Find.{has_part}
use Rattle.tez_plan.specs.declared.parts.Step.{Step}
use Rattle.tez_plan.specs.declared.parts.Step.TheVariants.{Tokenise, Filter, Project}
use Rattle.tez_plan.specs.declared.parts.Test.{Test}
use Rattle.tez_plan.specs.declared.parts.Test.TheVariants.{Eq, Ne, Contains, Lt, Gt}

-- the runs of bytes other than space and tab
abbrev pub words : List ℕ → List (List ℕ)
words r = filter (λ w. nat_lt 0 (length w)) (slice_split (λ b. b == 32 || b == 9) r)

-- the test of a field of a record; one of numbers does not hold where there is no number
abbrev pub holds : Test → List ℕ → ℕ → Bool
holds (Eq value) r i = bytes_eq (field r i) value
holds (Ne value) r i = not (bytes_eq (field r i) value)
holds (Contains value) r i = has_part (field r i) value
holds (Lt value) r i = option_map_or (λ n. int_lt n value) (number r i) false
holds (Gt value) r i = option_map_or (λ n. int_lt value n) (number r i) false

abbrev pub reads_number : Test → Bool
reads_number (Eq value) = false
reads_number (Ne value) = false
reads_number (Contains value) = false
reads_number (Lt value) = true
reads_number (Gt value) = true

abbrev pub step_rows : Step → List ℕ → List (List ℕ)
step_rows Tokenise r = map (λ w. w ++ 9 ∷ 49 ∷ []) (words r)
step_rows (Filter i test) r = if holds test r i then r ∷ [] else []
step_rows (Project cols) r = key cols r ∷ []

abbrev pub is_bad_for : Step → List ℕ → Bool
is_bad_for Tokenise r = false
is_bad_for (Filter i test) r = reads_number test && is_none (number r i)
is_bad_for (Project cols) r = false

abbrev pub run : List Step → List (List ℕ) → List (List ℕ)
run [] rs = rs
run (s ∷ steps) rs = run steps (flat_map (step_rows s) rs)

-- the bad records of each step in turn
abbrev pub bad_in_steps : List Step → List (List ℕ) → List (List (List ℕ))
bad_in_steps [] rs = []
bad_in_steps (s ∷ steps) rs = filter (is_bad_for s) rs ∷ bad_in_steps steps (flat_map (step_rows s) rs)
