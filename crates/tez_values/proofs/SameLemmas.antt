-- A head makes the same bag of inputs in any order.
--     distinct-same        the distinct keys of two lists of one bag
--     rows_by_key-same     the rows by key
--     join_rows-same       the pairs of a join
--     first_bad-same       the first bad record of a program
use Rattle.std.proofs.Common.{◌≡◌, ℕ, ◌+◌, ◌<◌, min, Bool, true, false, cond, not, ◌||◌, List, [], ◌∷◌, length, map, refl, sym, ap, ap₂, ◌∙◌, subst, arith, sum_by, filter, flat_map, fold, bytes_eq, suc, add-zero, decimal, pos, ◌+ℤ◌, unwrap_or}
use lib.IntN.{+ℤ_assoc, +ℤ_comm}
use Rattle.std.specs.Fmt.{signed_decimal}
use Rattle.std.proofs.lemmas.List.Concat.{flat_map_single}
use Rattle.std.proofs.lemmas.List.Sums.{sum_by-cons}
use Rattle.tez_record.specs.Field.{key, number}
use Rattle.tez_record.specs.Bag.{place, sort, first_or}
use Rattle.tez_lists.proofs.Cases.{cases}
use Rattle.tez_record.proofs.BagLemmas.{at_most, count, same_record, same_bag, sum_by-same}
use Rattle.tez_lists.proofs.Sums.{sum_by-flat_map, sum_by-ext}
use Rattle.tez_record.proofs.PartsLemmas.{flat_map-same}
use Rattle.tez_plan.specs.declared.parts.Head.{Head}
use Rattle.tez_plan.specs.declared.parts.Head.TheVariants.{Each, Sum, Count, Distinct, Join, Lookup, KeepIn, DropIn}
use Rattle.tez_plan.specs.declared.parts.Step.{Step}
use Rattle.tez_values.specs.Heads.{HeadInputs, SameInputs, beside, is_among, is_good, distinct, has_key, sum_of, rows_by_key, sum_rows, count_rows, distinct_rows, join_rows, head_rows}
use Rattle.tez_values.specs.Heads.{is_bad_for_head}
use Rattle.tez_values.specs.Steps.{step_rows, is_bad_for, bad_in_steps}
use Rattle.tez_values.specs.Program.{output, first_bad, least_of}
use Rattle.tez_values.proofs.StepLemmas.{run-same}

pub filter_is : (p : List ℕ → Bool) (xs : List (List ℕ)) → filter p xs ≡ flat_map (λ x. cond (p x) (x ∷ []) []) xs
filter_is p [] = refl
filter_is p (x ∷ xs) = cases (p x)
    (λ e. rw e (ap (λ (rest : List (List ℕ)). x ∷ rest) (filter_is p xs)))
    (λ e. rw e (filter_is p xs))

pub map-same : (f : List ℕ → List ℕ) (xs ys : List (List ℕ)) → sort xs ≡ sort ys → sort (map f xs) ≡ sort (map f ys)
map-same f xs ys e = ap sort (sym (flat_map_single f xs)) ∙ flat_map-same (λ x. f x ∷ []) xs ys e ∙ ap sort (flat_map_single f ys)

pub filter-same : (p : List ℕ → Bool) (xs ys : List (List ℕ)) → sort xs ≡ sort ys → sort (filter p xs) ≡ sort (filter p ys)
filter-same p xs ys e = ap sort (filter_is p xs) ∙ flat_map-same (λ x. cond (p x) (x ∷ []) []) xs ys e ∙ ap sort (sym (filter_is p ys))

-- a key is among the keys where it counts
among-count : (ks : List (List ℕ)) (k : List ℕ) → is_among ks k ≡ true → 0 < count k ks
among-count [] k h = cc
among-count (x ∷ ks) k h =
    let a : count k (x ∷ ks) ≡ cond (bytes_eq k x) 1 0 + count k ks = sum_by-cons (λ s. cond (bytes_eq k s) 1 0) x ks in
    cases (bytes_eq k x)
    (λ e. let b : count k (x ∷ ks) ≡ 1 + count k ks = a ∙ ap (λ t. cond t 1 0 + count k ks) e in omega arith)
    (λ e. let rest = among-count ks k (ap (λ t. t || is_among ks k) (sym e) ∙ h) in omega arith)

not_among-count : (ks : List (List ℕ)) (k : List ℕ) → is_among ks k ≡ false → count k ks ≡ 0
not_among-count [] k h = refl
not_among-count (x ∷ ks) k h = cases (bytes_eq k x)
    (λ e. let wrong : true ≡ false = ap (λ t. t || is_among ks k) (sym e) ∙ h in cc)
    (λ e. sum_by-cons (λ s. cond (bytes_eq k s) 1 0) x ks ∙ ap₂ (λ t n. cond t 1 0 + n) e (not_among-count ks k (ap (λ t. t || is_among ks k) (sym e) ∙ h)))

distinct-count : (ks : List (List ℕ)) (k : List ℕ) → count k (distinct ks) ≡ min 1 (count k ks)
distinct-count [] k = refl
distinct-count (x ∷ ks) k =
    let rest = distinct-count ks k in
    let one = λ (s : List ℕ). cond (bytes_eq k s) 1 0 in
    let a : count k (x ∷ ks) ≡ cond (bytes_eq k x) 1 0 + count k ks = sum_by-cons one x ks in
    let b : count k (x ∷ distinct ks) ≡ cond (bytes_eq k x) 1 0 + count k (distinct ks) = sum_by-cons one x (distinct ks) in
    cases (is_among ks x)
    (λ e. rw e (cases (bytes_eq k x)
    (λ t.
    let some : 0 < count k ks = subst (λ y. 0 < count y ks) (sym (same_record k x t)) (among-count ks x e) in
    let a' : count k (x ∷ ks) ≡ 1 + count k ks = a ∙ ap (λ v. cond v 1 0 + count k ks) t in
    omega arith)
    (λ t. let a' : count k (x ∷ ks) ≡ 0 + count k ks = a ∙ ap (λ v. cond v 1 0 + count k ks) t in omega arith)))
    (λ e. rw e (cases (bytes_eq k x)
    (λ t.
    let none : count k ks ≡ 0 = subst (λ y. count y ks ≡ 0) (sym (same_record k x t)) (not_among-count ks x e) in
    let a' : count k (x ∷ ks) ≡ 1 + count k ks = a ∙ ap (λ v. cond v 1 0 + count k ks) t in
    let b' : count k (x ∷ distinct ks) ≡ 1 + count k (distinct ks) = b ∙ ap (λ v. cond v 1 0 + count k (distinct ks)) t in
    omega arith)
    (λ t.
    let a' : count k (x ∷ ks) ≡ 0 + count k ks = a ∙ ap (λ v. cond v 1 0 + count k ks) t in
    let b' : count k (x ∷ distinct ks) ≡ 0 + count k (distinct ks) = b ∙ ap (λ v. cond v 1 0 + count k (distinct ks)) t in
    omega arith)))

pub distinct-same : (xs ys : List (List ℕ)) → sort xs ≡ sort ys → sort (distinct xs) ≡ sort (distinct ys)
distinct-same xs ys e = same_bag (distinct xs) (distinct ys) (λ k. distinct-count xs k ∙ ap (min 1) (sum_by-same (λ s. cond (bytes_eq k s) 1 0) xs ys e) ∙ sym (distinct-count ys k))

-- rows by key, where what a row says of the records of its key does not depend on their order
pub rows_by_key-same : (says : List (List ℕ) → List ℕ → List ℕ) → ((as' bs : List (List ℕ)) (k : List ℕ) → sort as' ≡ sort bs → says as' k ≡ says bs k) → (cols : List ℕ) (xs ys : List (List ℕ)) → sort xs ≡ sort ys
    → sort (rows_by_key says cols xs) ≡ sort (rows_by_key says cols ys)
rows_by_key-same says free cols xs ys e =
    map-same (λ k. says (filter (has_key cols k) xs) k) (distinct (map (key cols) xs)) (distinct (map (key cols) ys)) (distinct-same (map (key cols) xs) (map (key cols) ys) (map-same (key cols) xs ys e))
    ∙ ap (λ f. sort (map f (distinct (map (key cols) ys)))) (λ i k. free (filter (has_key cols k) xs) (filter (has_key cols k) ys) k (filter-same (has_key cols k) xs ys e) i)

-- a fold whose step takes records in any order
fold-place : {B : Type 0} (f : B → List ℕ → B) → ((b : B) (r s : List ℕ) → f (f b r) s ≡ f (f b s) r) → (b : B) (r : List ℕ) (bag : List (List ℕ)) → fold f b (place r bag) ≡ fold f (f b r) bag
fold-place f free b r [] = refl
fold-place f free b r (s ∷ bag) = cases (at_most r s)
    (λ e. rw e refl)
    (λ e. rw e (fold-place f free (f b s) r bag ∙ ap (λ c. fold f c bag) (free b s r)))

fold-sort : {B : Type 0} (f : B → List ℕ → B) → ((b : B) (r s : List ℕ) → f (f b r) s ≡ f (f b s) r) → (b : B) (rs : List (List ℕ)) → fold f b (sort rs) ≡ fold f b rs
fold-sort f free b [] = refl
fold-sort f free b (r ∷ rs) = fold-place f free b r (sort rs) ∙ fold-sort f free (f b r) rs

pub fold-same : {B : Type 0} (f : B → List ℕ → B) → ((b : B) (r s : List ℕ) → f (f b r) s ≡ f (f b s) r) → (b : B) (xs ys : List (List ℕ)) → sort xs ≡ sort ys → fold f b xs ≡ fold f b ys
fold-same f free b xs ys e = sym (fold-sort f free b xs) ∙ ap (fold f b) e ∙ fold-sort f free b ys

pub flat_map-each : {X : Type 0} (f g : X → List (List ℕ)) → ((x : X) → sort (f x) ≡ sort (g x)) → (xs : List X) → sort (flat_map f xs) ≡ sort (flat_map g xs)
flat_map-each f g e xs = same_bag (flat_map f xs) (flat_map g xs) (λ r.
    let one = λ (s : List ℕ). cond (bytes_eq r s) 1 0 in
    sum_by-flat_map one f xs
    ∙ sum_by-ext (λ x. sum_by one (f x)) (λ x. sum_by one (g x)) xs (λ x. sum_by-same one (f x) (g x) (e x))
    ∙ sym (sum_by-flat_map one g xs))

pub join_rows-same : (cols partner_cols : List ℕ) (ls ms rs qs : List (List ℕ)) → sort ls ≡ sort ms → sort rs ≡ sort qs → sort (join_rows cols partner_cols ls rs) ≡ sort (join_rows cols partner_cols ms qs)
join_rows-same cols partner_cols ls ms rs qs e d =
    flat_map-same (λ l. map (beside l) (filter (has_key partner_cols (key cols l)) rs)) ls ms e
    ∙ flat_map-each (λ l. map (beside l) (filter (has_key partner_cols (key cols l)) rs)) (λ l. map (beside l) (filter (has_key partner_cols (key cols l)) qs))
    (λ l. map-same (beside l) (filter (has_key partner_cols (key cols l)) rs) (filter (has_key partner_cols (key cols l)) qs) (filter-same (has_key partner_cols (key cols l)) rs qs d)) ms

pub is_among-same : (xs ys : List (List ℕ)) (k : List ℕ) → sort xs ≡ sort ys → is_among xs k ≡ is_among ys k
is_among-same xs ys k e =
    let same : count k xs ≡ count k ys = sum_by-same (λ s. cond (bytes_eq k s) 1 0) xs ys e in
    cases (is_among xs k)
    (λ a. cases (is_among ys k)
    (λ b. a ∙ sym b)
    (λ b. let some = among-count xs k a in let none = not_among-count ys k b in absurd (omega arith)))
    (λ a. cases (is_among ys k)
    (λ b. let some = among-count ys k b in let none = not_among-count xs k a in absurd (omega arith))
    (λ b. a ∙ sym b))

length-free : (as' bs : List (List ℕ)) → sort as' ≡ sort bs → length as' ≡ length bs
length-free as' bs e = sym (counted as') ∙ fold-same (λ n r. suc n) (λ n r s. refl) 0 as' bs e ∙ counted bs
  where
    counted_from : (n : ℕ) (rs : List (List ℕ)) → fold (λ m r. suc m) n rs ≡ n + length rs
    counted_from n [] = sym (add-zero n)
    counted_from n (r ∷ rs) = let rest = counted_from (suc n) rs in omega arith

    counted : (rs : List (List ℕ)) → fold (λ m r. suc m) 0 rs ≡ length rs
    counted rs = let e = counted_from 0 rs in omega arith

sum_of-free : (value : ℕ) (as' bs : List (List ℕ)) → sort as' ≡ sort bs → sum_of value as' ≡ sum_of value bs
sum_of-free value as' bs e = fold-same (λ n r. n +ℤ unwrap_or (number r value) (pos 0)) (λ n r s. +ℤ_assoc n _ _ ∙ ap (λ m. n +ℤ m) (+ℤ_comm (unwrap_or (number r value) (pos 0)) (unwrap_or (number s value) (pos 0))) ∙ sym (+ℤ_assoc n _ _)) (pos 0) as' bs e

pub head_rows-same : (h : Head) (i j : HeadInputs) → SameInputs i j → sort (head_rows h i) ≡ sort (head_rows h j)
head_rows-same Each i j e = e.primary
head_rows-same (Sum value) i j e =
    rows_by_key-same (λ those k. beside k (signed_decimal (sum_of value those))) (λ as' bs k d. ap (λ n. beside k (signed_decimal n)) (sum_of-free value as' bs d)) i.columns (filter (is_good value) i.primary) (filter (is_good value) j.primary) (filter-same (is_good value) i.primary j.primary e.primary)
    ∙ ap (λ cols. sort (sum_rows cols value j.primary)) e.columns
head_rows-same Count i j e =
    rows_by_key-same (λ those k. beside k (decimal (length those))) (λ as' bs k d. ap (λ n. beside k (decimal n)) (length-free as' bs d)) i.columns i.primary j.primary e.primary
    ∙ ap (λ cols. sort (count_rows cols j.primary)) e.columns
head_rows-same Distinct i j e =
    rows_by_key-same (λ those k. k) (λ as' bs k d. refl) i.columns i.primary j.primary e.primary
    ∙ ap (λ cols. sort (distinct_rows cols j.primary)) e.columns
head_rows-same (Join left) i j e =
    join_rows-same i.columns i.partner_columns i.primary j.primary i.partner j.partner e.primary e.partner
    ∙ ap₂ (λ cols partner_cols. sort (join_rows cols partner_cols j.primary j.partner)) e.columns e.partner_columns
head_rows-same (Lookup key_cols side_cols) i j e = join_rows-same key_cols side_cols i.primary j.primary i.side j.side e.primary e.side
head_rows-same (KeepIn key_cols side_cols) i j e =
    filter-same (λ l. is_among (map (key side_cols) i.side) (key key_cols l)) i.primary j.primary e.primary
    ∙ ap (λ q. sort (filter q j.primary)) (λ t l. is_among-same (map (key side_cols) i.side) (map (key side_cols) j.side) (key key_cols l) (map-same (key side_cols) i.side j.side e.side) t)
head_rows-same (DropIn key_cols side_cols) i j e =
    filter-same (λ l. not (is_among (map (key side_cols) i.side) (key key_cols l))) i.primary j.primary e.primary
    ∙ ap (λ q. sort (filter q j.primary)) (λ t l. not (is_among-same (map (key side_cols) i.side) (map (key side_cols) j.side) (key key_cols l) (map-same (key side_cols) i.side j.side e.side) t))

-- the output of a program depends on the bags of its inputs alone
pub output-same : (h : Head) (steps : List Step) (i j : HeadInputs) → SameInputs i j → output h steps i ≡ output h steps j
output-same h steps i j e = run-same steps (head_rows h i) (head_rows h j) (head_rows-same h i j e)

-- ---- the first bad record depends on the bags of the inputs alone

bad_steps-same : (steps : List Step) (xs ys : List (List ℕ)) → sort xs ≡ sort ys → least_of (bad_in_steps steps xs) ≡ least_of (bad_in_steps steps ys)
bad_steps-same [] xs ys e = refl
bad_steps-same (s ∷ steps) xs ys e =
    ap₂ first_or (filter-same (is_bad_for s) xs ys e) (bad_steps-same steps (flat_map (step_rows s) xs) (flat_map (step_rows s) ys) (flat_map-same (step_rows s) xs ys e))

pub first_bad-same : (h : Head) (steps : List Step) (i j : HeadInputs) → SameInputs i j → first_bad h steps i ≡ first_bad h steps j
first_bad-same h steps i j e =
    ap₂ first_or (filter-same (is_bad_for_head h) i.primary j.primary e.primary) (bad_steps-same steps (head_rows h i) (head_rows h j) (head_rows-same h i j e))
