-- A program over rows in some order.
--     bad_later           the bad record of a step, before those of later steps
--     bad-same            the bad records of the steps do not depend on the order of the rows
--     first_of_steps      the first bad record, where the head has none
--     none_first          where there is no first record there is none
use Rattle.std.proofs.Common.{◌≡◌, ℕ, List, [], ◌∷◌, refl, sym, ap, ap₂, subst, ◌∙◌, filter, flat_map, Option, None, ◌+◌, ◌<◌, get_or, drop, length}
use Rattle.std.proofs.lemmas.List.{drop_more}
use Rattle.tez_record.specs.Bag.{sort, first_or}
use Rattle.tez_record.proofs.PartsLemmas.{flat_map-same}
use Rattle.tez_values.proofs.SameLemmas.{filter-same}
use Rattle.tez_plan.specs.declared.parts.Step.{Step}
use Rattle.tez_values.specs.Steps.{step_rows, is_bad_for, run, bad_in_steps}
use Rattle.tez_plan.specs.declared.parts.Head.{Head}
use Rattle.tez_values.specs.Heads.{HeadInputs, head_rows, is_bad_for_head}
use Rattle.tez_values.specs.Program.{least_of, first_bad}
use Rattle.tez_plain.specs.declared.fault.PlainFault.{PlainFault}
use Rattle.tez_plain.specs.declared.fault.PlainFault.TheVariants.{BadRecord, NoMemory}
use Rattle.tez_plain.specs.Answer.{IsBadAnswer}

pub none_first : (xs : List (List ℕ)) → None ≡ first_or xs None → xs ≡ []
none_first [] h = refl
none_first (x ∷ xs) h = cc

pub bad_later : (fault : PlainFault) (xs : List (List ℕ)) (later : Option (List ℕ)) → IsBadAnswer fault (first_or xs None) → IsBadAnswer fault (first_or xs later)
bad_later NoMemory xs later h = tt
bad_later (BadRecord r) [] later h = cc
bad_later (BadRecord r) (x ∷ xs) later h = h

pub bad-same : (steps : List Step) (xs ys : List (List ℕ)) → sort xs ≡ sort ys → least_of (bad_in_steps steps xs) ≡ least_of (bad_in_steps steps ys)
bad-same [] xs ys e = refl
bad-same (s ∷ steps) xs ys e = ap₂ first_or (filter-same (is_bad_for s) xs ys e) (bad-same steps (flat_map (step_rows s) xs) (flat_map (step_rows s) ys) (flat_map-same (step_rows s) xs ys e))

-- where no record of the head is bad, the first bad one is that of the steps, over the rows in any order
pub first_of_steps : (h : Head) (steps : List Step) (i : HeadInputs) (rows : List (List ℕ)) → sort (filter (is_bad_for_head h) i.primary) ≡ [] → sort rows ≡ sort (head_rows h i) → least_of (bad_in_steps steps rows) ≡ first_bad h steps i
first_of_steps h steps i rows none same = bad-same steps rows (head_rows h i) same ∙ ap (λ xs. first_or xs (least_of (bad_in_steps steps (head_rows h i)))) (sym none)

-- a step of the loop over steps
module _ (steps : List Step) (i : ℕ) (s : Step) (made : List (List ℕ)) (low : i < length steps) (is : s ≡ get_or steps i s) where
  here : drop i steps ≡ s ∷ drop (i + 1) steps
  here = drop_more steps i s low ∙ ap (λ x. x ∷ drop (i + 1) steps) (sym is)

  pub run_more : (now : List (List ℕ)) → now ≡ flat_map (step_rows s) made → run (drop (i + 1) steps) now ≡ run (drop i steps) made
  run_more now e = ap (run (drop (i + 1) steps)) e ∙ sym (ap (λ xs. run xs made) here)

  bad_here : least_of (bad_in_steps (drop i steps) made) ≡ first_or (sort (filter (is_bad_for s) made)) (least_of (bad_in_steps (drop (i + 1) steps) (flat_map (step_rows s) made)))
  bad_here = ap (λ xs. least_of (bad_in_steps xs made)) here

  pub bad_more : (now : List (List ℕ)) → now ≡ flat_map (step_rows s) made → sort (filter (is_bad_for s) made) ≡ [] → least_of (bad_in_steps (drop (i + 1) steps) now) ≡ least_of (bad_in_steps (drop i steps) made)
  bad_more now e none =
      ap (λ xs. least_of (bad_in_steps (drop (i + 1) steps) xs)) e
      ∙ sym (ap (λ xs. first_or xs (least_of (bad_in_steps (drop (i + 1) steps) (flat_map (step_rows s) made)))) none)
      ∙ sym bad_here

  pub bad_found : (fault : PlainFault) → IsBadAnswer fault (first_or (sort (filter (is_bad_for s) made)) None) → IsBadAnswer fault (least_of (bad_in_steps (drop i steps) made))
  bad_found fault h = subst (IsBadAnswer fault) (sym bad_here) (bad_later fault (sort (filter (is_bad_for s) made)) (least_of (bad_in_steps (drop (i + 1) steps) (flat_map (step_rows s) made))) h)
