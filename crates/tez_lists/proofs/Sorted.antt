-- Lists in order, where only equal elements tie.
--     InOrder cmp xs       each element comes before each later one, or ties with it
--     InOrder-from, IsSorted-from      this is the order of neighbours, as sorts ensure it
--     same_sorted          two lists in order with the same elements are one list
use Rattle.std.proofs.Common.{◌≡◌, ℕ, suc, zero, ◌+◌, ◌<◌, true, false, cond, List, [], ◌∷◌, refl, sym, ap, ◌∙◌, subst, arith, sum_by, is_lt, is_gt, is_eq, Less, Equal, Greater, Ordering, IsPermutation, IsSorted, slice_index_or}
use Rattle.std.specs.List.{AllByRecursion}
use Rattle.std.specs.Ordering.{ordering_reverse}
use Rattle.std.specs.Cmp.{IsTotalOrder, upto, tied_itself}
use Rattle.std.specs.FinMap.{IsAntisymmetric}
use Rattle.std.proofs.lemmas.List.Sums.{sum_by-cons}
use Rattle.std.proofs.lemmas.List.Sorted.{sum_by-IsPermutation}
use Rattle.tez_lists.proofs.Cases.{cases, both}

abbrev pub IsUpTo : {X : Type 0} → (X → X → Ordering) → X → X → Type 0
IsUpTo cmp x y = is_gt (cmp x y) ≡ false

abbrev pub InOrder : {X : Type 0} → (X → X → Ordering) → List X → Type 0
InOrder cmp [] = Unit {0}
InOrder cmp (x ∷ xs) = AllByRecursion (IsUpTo cmp x) xs × InOrder cmp xs

turned : (o p : Ordering) → p ≡ ordering_reverse o → is_lt o ≡ false → is_gt p ≡ false
turned Less p e h = both refl h
turned Equal p e h = ap is_gt e
turned Greater p e h = ap is_gt e

turned_back : (o p : Ordering) → p ≡ ordering_reverse o → is_gt o ≡ false → is_lt p ≡ false
turned_back Less p e h = ap is_lt e
turned_back Equal p e h = ap is_lt e
turned_back Greater p e h = both refl h

tie : (o p : Ordering) → o ≡ ordering_reverse p → is_gt o ≡ false → is_gt p ≡ false → o ≡ Equal
tie Less Less e h k = cc
tie Less Equal e h k = cc
tie Less Greater e h k = both refl k
tie Equal p e h k = refl
tie Greater p e h k = both refl h

equal : (o : Ordering) → is_eq o ≡ true → o ≡ Equal
equal Less e = both e refl
equal Equal e = refl
equal Greater e = both e refl

module _ {X : Type 0} (cmp : X → X → Ordering) (order : IsTotalOrder cmp) where
  tail : (x : X) (xs : List X) → IsSorted cmp (x ∷ xs) → IsSorted cmp xs
  tail x xs sorted k d low high =
      let next : suc k + 1 ≡ suc (k + 1) = omega arith in
      subst (λ n. is_lt (cmp (slice_index_or (x ∷ xs) n d) (slice_index_or xs k d)) ≡ false) next (sorted (suc k) d (omega arith) (omega arith))

  up_to : (x y : X) → is_lt (cmp y x) ≡ false → IsUpTo cmp x y
  up_to x y h = turned (cmp y x) (cmp x y) (order.antisymm x y) h

  pub up_to-all : (x y : X) (ys : List X) → IsUpTo cmp x y → AllByRecursion (IsUpTo cmp y) ys → AllByRecursion (IsUpTo cmp x) ys
  up_to-all x y [] h all = tt
  up_to-all x y (z ∷ ys) h all = (upto order x y z h all.0, up_to-all x y ys h all.1)

  least : (x : X) (xs : List X) → IsSorted cmp (x ∷ xs) → AllByRecursion (IsUpTo cmp x) xs
  least x [] sorted = tt
  least x (y ∷ ys) sorted =
      let first = up_to x y (sorted 0 x (omega arith) (omega arith)) in
      (first, up_to-all x y ys first (least y ys (tail x (y ∷ ys) sorted)))

  pub InOrder-from : (xs : List X) → IsSorted cmp xs → InOrder cmp xs
  InOrder-from [] sorted = tt
  InOrder-from (x ∷ xs) sorted = (least x xs sorted, InOrder-from xs (tail x xs sorted))

  pub IsSorted-from : (xs : List X) → InOrder cmp xs → IsSorted cmp xs
  IsSorted-from [] all k d low high = absurd (omega arith)
  IsSorted-from (x ∷ []) all k d low high = absurd (omega arith)
  IsSorted-from (x ∷ y ∷ ys) all zero d low high = turned_back (cmp x y) (cmp y x) (order.antisymm y x) all.0.0
  IsSorted-from (x ∷ y ∷ ys) all (suc k) d low high =
      let next : suc (k + 1) ≡ suc k + 1 = omega arith in
      subst (λ n. is_lt (cmp (slice_index_or (x ∷ y ∷ ys) n d) (slice_index_or (y ∷ ys) k d)) ≡ false) next (IsSorted-from (y ∷ ys) all.1 k d (omega arith) (omega arith))

module _ {X : Type 0} (cmp : X → X → Ordering) (order : IsTotalOrder cmp) (ties : IsAntisymmetric cmp) where
  there : (x : X) (P : X → Type 0) (zs : List X) → AllByRecursion P zs → 0 < sum_by (λ u. cond (is_eq (cmp x u)) 1 0) zs → P x
  there x P [] all some = absurd (omega arith)
  there x P (z ∷ zs) all some =
      let parts = sum_by-cons (λ u. cond (is_eq (cmp x u)) 1 0) z zs in
      let rest = sum_by (λ u. cond (is_eq (cmp x u)) 1 0) zs in
      cases (is_eq (cmp x z))
      (λ e. subst P (sym (ties x z (equal (cmp x z) e))) all.0)
      (λ e. there x P zs all.1 (subst (λ n. 0 < n) (parts ∙ ap (λ b. cond b 1 0 + rest) e ∙ omega arith) some))

  itself : (x : X) → IsUpTo cmp x x
  itself x = ap is_gt (tied_itself order x)

  counted : (x : X) (xs : List X) → 0 < sum_by (λ u. cond (is_eq (cmp x u)) 1 0) (x ∷ xs)
  counted x xs =
      let rest = sum_by (λ u. cond (is_eq (cmp x u)) 1 0) xs in
      subst (λ n. 0 < n) (sym (sum_by-cons (λ u. cond (is_eq (cmp x u)) 1 0) x xs ∙ ap (λ o. cond (is_eq o) 1 0 + rest) (tied_itself order x))) (omega arith)

  -- the heads of two such lists are equal
  up_to_head : (x y : X) (xs ys : List X) → AllByRecursion (IsUpTo cmp y) ys → ((f : X → ℕ) → sum_by f (x ∷ xs) ≡ sum_by f (y ∷ ys)) → IsUpTo cmp y x
  up_to_head x y xs ys all same = there x (IsUpTo cmp y) (y ∷ ys) (itself y, all) (subst (λ n. 0 < n) (same (λ u. cond (is_eq (cmp x u)) 1 0)) (counted x xs))

  no_more : (x : X) (xs : List X) → 0 ≡ sum_by (λ u. 1) (x ∷ xs) → ⊥
  no_more x xs e = let parts = sum_by-cons {X = X} (λ u. 1) x xs in omega arith

  pub same_in_order : (xs ys : List X) → InOrder cmp xs → InOrder cmp ys → ((f : X → ℕ) → sum_by f xs ≡ sum_by f ys) → xs ≡ ys
  same_in_order [] [] h k same = refl
  same_in_order [] (y ∷ ys) h k same = absurd (no_more y ys (same (λ u. 1)))
  same_in_order (x ∷ xs) [] h k same = absurd (no_more x xs (sym (same (λ u. 1))))
  same_in_order (x ∷ xs) (y ∷ ys) h k same =
      let first : x ≡ y = ties x y (tie (cmp x y) (cmp y x) (order.antisymm x y) (up_to_head y x ys xs h.0 (λ f. sym (same f))) (up_to_head x y xs ys k.0 same)) in
      let rest : xs ≡ ys = same_in_order xs ys h.1 k.1 (λ f.
      let a : sum_by f (x ∷ xs) ≡ f x + sum_by f xs = sum_by-cons f x xs in
      let b : sum_by f (y ∷ ys) ≡ f y + sum_by f ys = sum_by-cons f y ys in
      let c : sum_by f (x ∷ xs) ≡ sum_by f (y ∷ ys) = same f in
      let d : f x ≡ f y = ap f first in
      omega arith) in
      ap (λ z. z ∷ xs) first ∙ ap (λ zs. y ∷ zs) rest

  -- permutations of one another that are both sorted
  pub same_sorted : (xs ys : List X) → IsPermutation xs ys → IsSorted cmp xs → IsSorted cmp ys → xs ≡ ys
  same_sorted xs ys moved h k = same_in_order xs ys (InOrder-from cmp order xs h) (InOrder-from cmp order ys k) (λ f. sym (sum_by-IsPermutation f xs ys moved))
