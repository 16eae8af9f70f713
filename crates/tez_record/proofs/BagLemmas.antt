-- Bags by how often each record is in them.
--     count r rs            how often r is in rs
--     count-sort            a sort keeps each count
--     same_bag              lists with the same counts are one bag
--     sum_by-sort           a sum over a bag is the sum over any list of its records
use Rattle.std.proofs.Common.{◌≡◌, ℕ, ◌+◌, ◌<◌, Bool, true, false, cond, List, [], ◌∷◌, refl, sym, ap, ◌∙◌, subst, arith, sum_by, count_by, is_le, is_gt, Less, Equal, Greater, Ordering, bytes_eq, IsPermutation, IsSorted}
use Rattle.std.specs.Ordering.{ordering_reverse}
use Rattle.std.specs.Cmp.{IsTotalOrder, upto}
use Rattle.std.specs.Cmp.Lexicographic.{nat_list_cmp_total, bytes_decides}
use Rattle.std.specs.FinMap.{slice_cmp-IsAntisymmetric, nat_cmp-IsAntisymmetric}
use Rattle.std.proofs.lemmas.List.Sums.{sum_by-cons}
use Rattle.std.proofs.lemmas.List.Sorted.{sum_by-IsPermutation}
use Rattle.tez_lists.proofs.Cases.{cases, both}
use Rattle.tez_lists.proofs.Sorted.{InOrder, IsUpTo, InOrder-from, IsSorted-from, up_to-all, same_in_order}
use Rattle.std.specs.List.{AllByRecursion}
use Rattle.tez_record.specs.Bag.{compare, place, sort}

-- r comes before s in byte order, or is s
abbrev pub at_most : List ℕ → List ℕ → Bool
at_most r s = is_le (compare r s)

order : IsTotalOrder compare
order = nat_list_cmp_total

turned : (o p : Ordering) → o ≡ ordering_reverse p → is_le o ≡ false → is_le p ≡ true
turned Less p e h = both refl h
turned Equal p e h = both refl h
turned Greater Less e h = refl
turned Greater Equal e h = refl
turned Greater Greater e h = cc

tied : (o p : Ordering) → o ≡ ordering_reverse p → is_le o ≡ true → is_le p ≡ true → o ≡ Equal
tied Less Less e h k = cc
tied Less Equal e h k = cc
tied Less Greater e h k = both k refl
tied Equal p e h k = refl
tied Greater p e h k = both h refl

le_gt : (o : Ordering) → is_le o ≡ true → is_gt o ≡ false
le_gt Less e = refl
le_gt Equal e = refl
le_gt Greater e = both e refl

gt_le : (o : Ordering) → is_gt o ≡ false → is_le o ≡ true
gt_le Less e = refl
gt_le Equal e = refl
gt_le Greater e = both refl e

pub at_most-total : (r s : List ℕ) → at_most r s ≡ false → at_most s r ≡ true
at_most-total r s h = turned (compare r s) (compare s r) (order.antisymm r s) h

pub at_most-antisym : (r s : List ℕ) → at_most r s ≡ true → at_most s r ≡ true → r ≡ s
at_most-antisym r s h k = slice_cmp-IsAntisymmetric nat_cmp-IsAntisymmetric r s (tied (compare r s) (compare s r) (order.antisymm r s) h k)

pub at_most-trans : (r s t : List ℕ) → at_most r s ≡ true → at_most s t ≡ true → at_most r t ≡ true
at_most-trans r s t h k = gt_le (compare r t) (upto order r s t (le_gt (compare r s) h) (le_gt (compare s t) k))

-- two records at the head, whichever came last
heads : (a b : List ℕ) (bag : List (List ℕ)) → cond (at_most a b) (a ∷ b ∷ bag) (b ∷ a ∷ bag) ≡ cond (at_most b a) (b ∷ a ∷ bag) (a ∷ b ∷ bag)
heads a b bag = cases (at_most a b)
    (λ ab. cases (at_most b a)
    (λ ba. rw (ab, ba) (λ i. at_most-antisym a b ab ba i ∷ sym (at_most-antisym a b ab ba) i ∷ bag))
    (λ ba. rw (ab, ba) refl))
    (λ ab. cases (at_most b a)
    (λ ba. rw (ab, ba) refl)
    (λ ba. both (at_most-total a b ab) ba))

-- which of two records is placed first does not matter
pub place_comm : (a b : List ℕ) (bag : List (List ℕ)) → place a (place b bag) ≡ place b (place a bag)
place_comm a b [] = heads a b []
place_comm a b (s ∷ bag) = cases (at_most b s)
    (λ bs. cases (at_most a s)
    (λ as'. rw (bs, as') (rw bs (heads a b (s ∷ bag))))
    (λ as'. cases (at_most a b)
    (λ ab. both (at_most-trans a b s ab bs) as')
    (λ ab. rw (bs, as', ab, bs) refl)))
    (λ bs. cases (at_most a s)
    (λ as'. cases (at_most b a)
    (λ ba. both (at_most-trans b a s ba as') bs)
    (λ ba. rw (bs, as', ba, bs) refl))
    (λ as'. rw (bs, as', bs) (ap (λ (rest : List (List ℕ)). s ∷ rest) (place_comm a b bag))))

-- how often r is among the records
abbrev pub count : List ℕ → List (List ℕ) → ℕ
count r rs = count_by (bytes_eq r) rs

pub same_record : (r s : List ℕ) → bytes_eq r s ≡ true → r ≡ s
same_record r s e = (bytes_decides r s).0 e

pub same_itself : (r : List ℕ) → bytes_eq r r ≡ true
same_itself r = (bytes_decides r r).1 refl

pub sum_by-place : (f : List ℕ → ℕ) (r : List ℕ) (bag : List (List ℕ)) → sum_by f (place r bag) ≡ f r + sum_by f bag
sum_by-place f r [] = sum_by-cons f r []
sum_by-place f r (s ∷ bag) =
    let rest = sum_by-place f r bag in
    let longer = sum_by-cons f s (place r bag) in
    let shorter = sum_by-cons f s bag in
    cases (at_most r s) (λ e. rw e (sum_by-cons f r (s ∷ bag))) (λ e. rw e (omega arith))

pub sum_by-sort : (f : List ℕ → ℕ) (rs : List (List ℕ)) → sum_by f (sort rs) ≡ sum_by f rs
sum_by-sort f [] = refl
sum_by-sort f (r ∷ rs) = sum_by-place f r (sort rs) ∙ ap (λ n. f r + n) (sum_by-sort f rs) ∙ sym (sum_by-cons f r rs)

-- the records without the first r
take_out : List ℕ → List (List ℕ) → List (List ℕ)
take_out r [] = []
take_out r (s ∷ rs) = cond (bytes_eq r s) rs (s ∷ take_out r rs)

count-nil : (r : List ℕ) → 0 < count r [] → ⊥
count-nil r h = omega arith

sum_by-take_out : (f : List ℕ → ℕ) (r : List ℕ) (rs : List (List ℕ)) → 0 < count r rs → sum_by f rs ≡ f r + sum_by f (take_out r rs)
unfolding take_out
sum_by-take_out f r [] h = absurd (count-nil r h)
sum_by-take_out f r (s ∷ rs) h =
    let whole = sum_by-cons f s rs in
    cases (bytes_eq r s)
    (λ e. rw e (whole ∙ ap (λ x. f x + sum_by f rs) (sym (same_record r s e))))
    (λ e.
    let there : 0 < count r rs = subst (λ n. 0 < n) (sum_by-cons (λ x. cond (bytes_eq r x) 1 0) s rs ∙ ap (λ b. cond b 1 0 + count r rs) e ∙ omega arith) h in
    let rest = sum_by-take_out f r rs there in
    let longer = sum_by-cons f s (take_out r rs) in
    rw e (omega arith))

sort-take_out : (r : List ℕ) (rs : List (List ℕ)) → 0 < count r rs → sort rs ≡ place r (sort (take_out r rs))
unfolding take_out
sort-take_out r [] h = absurd (count-nil r h)
sort-take_out r (s ∷ rs) h =
    cases (bytes_eq r s)
    (λ e. rw e (ap (λ x. place x (sort rs)) (sym (same_record r s e))))
    (λ e.
    let there : 0 < count r rs = subst (λ n. 0 < n) (sum_by-cons (λ x. cond (bytes_eq r x) 1 0) s rs ∙ ap (λ b. cond b 1 0 + count r rs) e ∙ omega arith) h in
    rw e (ap (place s) (sort-take_out r rs there) ∙ place_comm s r (sort (take_out r rs))))

count-head : (r : List ℕ) (rs : List (List ℕ)) → 0 < count r (r ∷ rs)
count-head r rs = subst (λ n. 0 < n) (sym (sum_by-cons (λ x. cond (bytes_eq r x) 1 0) r rs ∙ ap (λ b. cond b 1 0 + count r rs) (same_itself r))) (omega arith)

same_rest : (r x : List ℕ) (xs ys : List (List ℕ)) → 0 < count x ys → count r (x ∷ xs) ≡ count r ys → count r xs ≡ count r (take_out x ys)
same_rest r x xs ys there e =
    let a : count r (x ∷ xs) ≡ cond (bytes_eq r x) 1 0 + count r xs = sum_by-cons (λ s. cond (bytes_eq r s) 1 0) x xs in
    let b : count r ys ≡ cond (bytes_eq r x) 1 0 + count r (take_out x ys) = sum_by-take_out (λ s. cond (bytes_eq r s) 1 0) x ys there in
    omega arith

pub same_bag : (xs ys : List (List ℕ)) → ((r : List ℕ) → count r xs ≡ count r ys) → sort xs ≡ sort ys
same_bag [] [] h = refl
same_bag [] (y ∷ ys) h = absurd (count-nil y (subst (λ n. 0 < n) (sym (h y)) (count-head y ys)))
same_bag (x ∷ xs) ys h =
    let there : 0 < count x ys = subst (λ n. 0 < n) (h x) (count-head x xs) in
    ap (place x) (same_bag xs (take_out x ys) (λ r. same_rest r x xs ys there (h r))) ∙ sym (sort-take_out x ys there)

-- a sum over two lists of one bag
pub sum_by-same : (f : List ℕ → ℕ) (xs ys : List (List ℕ)) → sort xs ≡ sort ys → sum_by f xs ≡ sum_by f ys
sum_by-same f xs ys e = sym (sum_by-sort f xs) ∙ ap (sum_by f) e ∙ sum_by-sort f ys

pub sort-sort : (xs : List (List ℕ)) → sort (sort xs) ≡ sort xs
sort-sort xs = same_bag (sort xs) xs (λ r. sum_by-sort (λ s. cond (bytes_eq r s) 1 0) xs)

-- what std's sorts ensure gives the bag
pub sort-IsPermutation : (xs ys : List (List ℕ)) → IsPermutation xs ys → sort ys ≡ sort xs
sort-IsPermutation xs ys h = same_bag ys xs (λ r. sum_by-IsPermutation (λ s. cond (bytes_eq r s) 1 0) xs ys h)

all_place : (P : List ℕ → Type 0) (r : List ℕ) (bag : List (List ℕ)) → P r → AllByRecursion P bag → AllByRecursion P (place r bag)
all_place P r [] h all = (h, tt)
all_place P r (s ∷ bag) h all = cases (at_most r s) (λ e. rw e (h, all)) (λ e. rw e (all.0, all_place P r bag h all.1))

place_in_order : (r : List ℕ) (bag : List (List ℕ)) → InOrder compare bag → InOrder compare (place r bag)
place_in_order r [] h = (tt, tt)
place_in_order r (s ∷ bag) h = cases (at_most r s)
    (λ e. let first = le_gt (compare r s) e in rw e ((first, up_to-all compare order r s bag first h.0), h))
    (λ e. rw e (all_place (IsUpTo compare s) r bag (le_gt (compare s r) (at_most-total r s e)) h.0, place_in_order r bag h.1))

-- a bag is in byte order
pub sort_in_order : (rs : List (List ℕ)) → InOrder compare (sort rs)
sort_in_order [] = tt
sort_in_order (r ∷ rs) = place_in_order r (sort rs) (sort_in_order rs)

pub sort_sorted : (rs : List (List ℕ)) → IsSorted compare (sort rs)
sort_sorted rs = IsSorted-from compare order (sort rs) (sort_in_order rs)

-- what a sort of the code gives is the bag
pub bag_from_sort : (xs ys : List (List ℕ)) → IsPermutation xs ys → IsSorted compare ys → ys ≡ sort xs
bag_from_sort xs ys moved sorted =
    same_in_order compare order (slice_cmp-IsAntisymmetric nat_cmp-IsAntisymmetric) ys (sort xs) (InOrder-from compare order ys sorted) (sort_in_order xs)
    (λ f. sum_by-IsPermutation f xs ys moved ∙ sym (sum_by-sort f xs))

pub count-sort : (r : List ℕ) (rs : List (List ℕ)) → count r (sort rs) ≡ count r rs
count-sort r rs = sum_by-sort (λ s. cond (bytes_eq r s) 1 0) rs
