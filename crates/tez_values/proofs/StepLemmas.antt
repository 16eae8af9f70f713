-- Steps on parts of a bag.
--     run_each            steps go record by record
--     output-parts        what a program makes of parts is together what it makes of the whole, where this holds of its head
use Rattle.std.proofs.Common.{◌≡◌, ℕ, cond, List, [], ◌∷◌, ◌++◌, refl, sym, ap, ◌∙◌, sum_by, flat_map, bytes_eq}
use Rattle.std.proofs.lemmas.List.Concat.{flat_map-append}
use Rattle.tez_record.specs.Bag.{sort}
use Rattle.tez_record.proofs.BagLemmas.{same_bag, sum_by-sort}
use Rattle.tez_lists.proofs.Sums.{sum_by-flat_map, sum_by-ext}
use Rattle.tez_record.proofs.PartsLemmas.{flat_map-same}
use Rattle.tez_plan.specs.declared.parts.Step.{Step}
use Rattle.tez_values.specs.Steps.{step_rows, run}

pub run-nil : (steps : List Step) → run steps [] ≡ []
run-nil [] = refl
run-nil (s ∷ steps) = run-nil steps

pub run-append : (steps : List Step) (xs ys : List (List ℕ)) → run steps (xs ++ ys) ≡ run steps xs ++ run steps ys
run-append [] xs ys = refl
run-append (s ∷ steps) xs ys = ap (run steps) (flat_map-append (step_rows s) xs ys) ∙ run-append steps (flat_map (step_rows s) xs) (flat_map (step_rows s) ys)

pub run-flat_map : {X : Type 0} (steps : List Step) (f : X → List (List ℕ)) (xs : List X) → run steps (flat_map f xs) ≡ flat_map (λ x. run steps (f x)) xs
run-flat_map steps f [] = run-nil steps
run-flat_map steps f (x ∷ xs) = run-append steps (f x) (flat_map f xs) ∙ ap (λ (rest : List (List ℕ)). run steps (f x) ++ rest) (run-flat_map steps f xs)

-- equal bags stay equal
pub run-same : (steps : List Step) (xs ys : List (List ℕ)) → sort xs ≡ sort ys → sort (run steps xs) ≡ sort (run steps ys)
run-same [] xs ys e = e
run-same (s ∷ steps) xs ys e = run-same steps (flat_map (step_rows s) xs) (flat_map (step_rows s) ys) (flat_map-same (step_rows s) xs ys e)

-- a sort of each part changes nothing of the whole bag
pub flat_map-sorted : {X : Type 0} (f : X → List (List ℕ)) (xs : List X) → sort (flat_map (λ x. sort (f x)) xs) ≡ sort (flat_map f xs)
flat_map-sorted f xs = same_bag (flat_map (λ x. sort (f x)) xs) (flat_map f xs) (λ r.
    let one = λ (s : List ℕ). cond (bytes_eq r s) 1 0 in
    sum_by-flat_map one (λ x. sort (f x)) xs
    ∙ sum_by-ext (λ x. sum_by one (sort (f x))) (λ x. sum_by one (f x)) xs (λ x. sum_by-sort one (f x))
    ∙ sym (sum_by-flat_map one f xs))

pub run-parts : {X : Type 0} (steps : List Step) (f : X → List (List ℕ)) (xs : List X) (whole : List (List ℕ)) → sort (flat_map f xs) ≡ sort whole → sort (flat_map (λ x. sort (run steps (f x))) xs) ≡ sort (run steps whole)
run-parts steps f xs whole e =
    flat_map-sorted (λ x. run steps (f x)) xs
    ∙ ap sort (sym (run-flat_map steps f xs))
    ∙ run-same steps (flat_map f xs) whole e
