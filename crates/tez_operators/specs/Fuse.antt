-- Steps that are applied record by record.
--     is_plain s          the step reads no number, so no record is bad for it
--     made_of steps r     what the steps, one after the other, make of the record r
--     IsPass steps        each step past the first is plain
use Rattle.std.specs.Prelude.{◌≡◌, ℕ, Bool, true, not, List, [], ◌∷◌, drop}
use Rattle.std.specs.List.{list_all}
use Rattle.tez_plan.specs.declared.parts.Step.{Step}
use Rattle.tez_plan.specs.declared.parts.Step.TheVariants.{Tokenise, Filter, Project}
use Rattle.tez_values.specs.Steps.{reads_number, run}

abbrev pub is_plain : Step → Bool
is_plain Tokenise = true
is_plain (Filter i test) = not (reads_number test)
is_plain (Project cols) = true

abbrev pub made_of : List Step → List ℕ → List (List ℕ)
made_of steps r = run steps (r ∷ [])

abbrev pub IsPass : List Step → Type 0
IsPass steps = list_all is_plain (drop 1 steps) ≡ true
