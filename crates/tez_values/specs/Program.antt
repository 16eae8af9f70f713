-- A head and then steps.
--     output head steps inputs        the bag that they make of the inputs
--     first_bad head steps inputs     the least bad record of the head, or else of the first step that has one
use Rattle.std.specs.Prelude.{ℕ, Bool, List, [], ◌∷◌, Option, Some, None, is_some}
use Rattle.std.specs.List.{filter}
use Rattle.tez_record.specs.Bag.{sort, first_or}
use Rattle.tez_plan.specs.declared.parts.Head.{Head}
use Rattle.tez_plan.specs.declared.parts.Step.{Step}
use Rattle.tez_values.specs.Heads.{HeadInputs, head_rows, is_bad_for_head}
use Rattle.tez_values.specs.Steps.{run, bad_in_steps}

abbrev pub output : Head → List Step → HeadInputs → List (List ℕ)
output head steps i = sort (run steps (head_rows head i))

-- the bad records of the head and of each step in turn
abbrev pub bad_records : Head → List Step → HeadInputs → List (List (List ℕ))
bad_records head steps i = filter (is_bad_for_head head) i.primary ∷ bad_in_steps steps (head_rows head i)

-- the least record of the first bag that is not empty
abbrev pub least_of : List (List (List ℕ)) → Option (List ℕ)
least_of [] = None
least_of (bag ∷ bags) = first_or (sort bag) (least_of bags)

abbrev pub first_bad : Head → List Step → HeadInputs → Option (List ℕ)
first_bad head steps i = least_of (bad_records head steps i)

abbrev pub is_bad : Head → List Step → HeadInputs → Bool
is_bad head steps i = is_some (first_bad head steps i)
