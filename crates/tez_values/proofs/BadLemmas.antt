-- Bad records of parts and of the whole.
--     is_bad_any           a program is bad where its head or some step reads a bad record
--     list_any-same        a test of some record does not depend on the order
--     is_bad-parts         some part is bad exactly where the whole is
use Rattle.std.proofs.Common.{◌≡◌, ℕ, ◌+◌, ◌<◌, Bool, true, false, cond, ◌||◌, List, [], ◌∷◌, ◌++◌, refl, sym, ap, ap₂, ◌∙◌, arith, count_by, filter, flat_map, Option, is_some}
use Rattle.std.specs.List.{list_any}
use Rattle.std.proofs.lemmas.List.Sums.{sum_by-cons}
use Rattle.tez_record.specs.Bag.{place, sort, first_or}
use Rattle.tez_lists.proofs.Cases.{cases, both}
use Rattle.tez_record.proofs.BagLemmas.{at_most, sum_by-same}
use Rattle.tez_plan.specs.declared.parts.Head.{Head}
use Rattle.tez_plan.specs.declared.parts.Step.{Step}
use Rattle.tez_values.specs.Heads.{HeadInputs, head_rows, is_bad_for_head}
use Rattle.tez_values.specs.Steps.{step_rows, is_bad_for, bad_in_steps}
use Rattle.tez_values.specs.Program.{least_of, is_bad}

-- ---- a test of some element

or-assoc : (a b c : Bool) → (a || b) || c ≡ a || (b || c)
or-assoc true b c = refl
or-assoc false b c = refl

or-swap : (a b c d : Bool) → (a || b) || (c || d) ≡ (a || c) || (b || d)
or-swap true b c d = refl
or-swap false true true d = refl
or-swap false true false d = refl
or-swap false false c d = refl

list_any-append : {X : Type 0} (q : X → Bool) (xs ys : List X) → list_any q (xs ++ ys) ≡ list_any q xs || list_any q ys
list_any-append q [] ys = refl
list_any-append q (x ∷ xs) ys = ap (λ b. q x || b) (list_any-append q xs ys) ∙ sym (or-assoc (q x) (list_any q xs) (list_any q ys))

list_any-flat_map : {X Y : Type 0} (q : Y → Bool) (f : X → List Y) (xs : List X) → list_any q (flat_map f xs) ≡ list_any (λ x. list_any q (f x)) xs
list_any-flat_map q f [] = refl
list_any-flat_map q f (x ∷ xs) = list_any-append q (f x) (flat_map f xs) ∙ ap (λ b. list_any q (f x) || b) (list_any-flat_map q f xs)

list_any-or : {X : Type 0} (f g : X → Bool) (xs : List X) → list_any (λ x. f x || g x) xs ≡ list_any f xs || list_any g xs
list_any-or f g [] = refl
list_any-or f g (x ∷ xs) = ap (λ b. (f x || g x) || b) (list_any-or f g xs) ∙ or-swap (f x) (g x) (list_any f xs) (list_any g xs)

counted : (q : List ℕ → Bool) (xs : List (List ℕ)) → list_any q xs ≡ true → 0 < count_by q xs
counted q [] h = both h refl
counted q (x ∷ xs) h =
    let a : count_by q (x ∷ xs) ≡ cond (q x) 1 0 + count_by q xs = sum_by-cons (λ s. cond (q s) 1 0) x xs in
    cases (q x)
    (λ e. let b : count_by q (x ∷ xs) ≡ 1 + count_by q xs = a ∙ ap (λ t. cond t 1 0 + count_by q xs) e in omega arith)
    (λ e. let rest = counted q xs (ap (λ t. t || list_any q xs) (sym e) ∙ h) in omega arith)

uncounted : (q : List ℕ → Bool) (xs : List (List ℕ)) → list_any q xs ≡ false → count_by q xs ≡ 0
uncounted q [] h = refl
uncounted q (x ∷ xs) h = cases (q x)
    (λ e. let wrong : true ≡ false = ap (λ t. t || list_any q xs) (sym e) ∙ h in cc)
    (λ e. sum_by-cons (λ s. cond (q s) 1 0) x xs ∙ ap₂ (λ t n. cond t 1 0 + n) e (uncounted q xs (ap (λ t. t || list_any q xs) (sym e) ∙ h)))

pub list_any-same : (q : List ℕ → Bool) (xs ys : List (List ℕ)) → sort xs ≡ sort ys → list_any q xs ≡ list_any q ys
list_any-same q xs ys e =
    let same : count_by q xs ≡ count_by q ys = sum_by-same (λ s. cond (q s) 1 0) xs ys e in
    cases (list_any q xs)
    (λ a. cases (list_any q ys)
    (λ b. a ∙ sym b)
    (λ b. let some = counted q xs a in let none = uncounted q ys b in absurd (omega arith)))
    (λ a. cases (list_any q ys)
    (λ b. let some = counted q ys b in let none = uncounted q xs a in absurd (omega arith))
    (λ b. a ∙ sym b))

-- ---- a bad program

first_placed : (r : List ℕ) (bag : List (List ℕ)) (later : Option (List ℕ)) → is_some (first_or (place r bag) later) ≡ true
first_placed r [] later = refl
first_placed r (s ∷ bag) later = cases (at_most r s) (λ e. rw e refl) (λ e. rw e refl)

first_filter : (q : List ℕ → Bool) (rs : List (List ℕ)) (later : Option (List ℕ)) → is_some (first_or (sort (filter q rs)) later) ≡ list_any q rs || is_some later
first_filter q [] later = refl
first_filter q (r ∷ rs) later = cases (q r)
    (λ e. rw e (first_placed r (sort (filter q rs)) later))
    (λ e. rw e (first_filter q rs later))

-- some step reads a bad record
abbrev any_in_steps : List Step → List (List ℕ) → Bool
any_in_steps [] rs = false
any_in_steps (s ∷ steps) rs = list_any (is_bad_for s) rs || any_in_steps steps (flat_map (step_rows s) rs)

bad_any : (steps : List Step) (rs : List (List ℕ)) → is_some (least_of (bad_in_steps steps rs)) ≡ any_in_steps steps rs
bad_any [] rs = refl
bad_any (s ∷ steps) rs = first_filter (is_bad_for s) rs (least_of (bad_in_steps steps (flat_map (step_rows s) rs))) ∙ ap (λ b. list_any (is_bad_for s) rs || b) (bad_any steps (flat_map (step_rows s) rs))

-- some step reads a bad record that comes of r
abbrev bad_along : List Step → List ℕ → Bool
bad_along [] r = false
bad_along (s ∷ steps) r = is_bad_for s r || list_any (bad_along steps) (step_rows s r)

never : (rs : List (List ℕ)) → false ≡ list_any (λ r. false) rs
never [] = refl
never (r ∷ rs) = never rs

any_each : (steps : List Step) (rs : List (List ℕ)) → any_in_steps steps rs ≡ list_any (bad_along steps) rs
any_each [] rs = never rs
any_each (s ∷ steps) rs =
    ap (λ b. list_any (is_bad_for s) rs || b) (any_each steps (flat_map (step_rows s) rs) ∙ list_any-flat_map (bad_along steps) (step_rows s) rs)
    ∙ sym (list_any-or (is_bad_for s) (λ r. list_any (bad_along steps) (step_rows s r)) rs)

pub is_bad_any : (h : Head) (steps : List Step) (i : HeadInputs) → is_bad h steps i ≡ list_any (is_bad_for_head h) i.primary || list_any (bad_along steps) (head_rows h i)
is_bad_any h steps i =
    first_filter (is_bad_for_head h) i.primary (least_of (bad_in_steps steps (head_rows h i)))
    ∙ ap (λ b. list_any (is_bad_for_head h) i.primary || b) (bad_any steps (head_rows h i) ∙ any_each steps (head_rows h i))

pub is_bad-parts : {T : Type 0} (h : Head) (steps : List Step) (part : T → HeadInputs) (whole : HeadInputs) (ts : List T) → sort (flat_map (λ t. (part t).primary) ts) ≡ sort whole.primary → sort (flat_map (λ t. head_rows h (part t)) ts) ≡ sort (head_rows h whole)
    → list_any (λ t. is_bad h steps (part t)) ts ≡ is_bad h steps whole
is_bad-parts h steps part whole ts e d =
    ap (λ f. list_any f ts) (λ i t. is_bad_any h steps (part t) i)
    ∙ list_any-or (λ t. list_any (is_bad_for_head h) (part t).primary) (λ t. list_any (bad_along steps) (head_rows h (part t))) ts
    ∙ ap₂ (λ a b. a || b)
    (sym (list_any-flat_map (is_bad_for_head h) (λ t. (part t).primary) ts) ∙ list_any-same (is_bad_for_head h) (flat_map (λ t. (part t).primary) ts) whole.primary e)
    (sym (list_any-flat_map (bad_along steps) (λ t. head_rows h (part t)) ts) ∙ list_any-same (bad_along steps) (flat_map (λ t. head_rows h (part t)) ts) (head_rows h whole) d)
    ∙ sym (is_bad_any h steps whole)
