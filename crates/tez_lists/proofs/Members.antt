-- What is in a list that is made of other lists.
--     in_filter, in_map, in_flat_map, in_range_from      what is in such a list
--     only_one                                           a list of one element has this one alone
use Rattle.std.proofs.Common.{◌≡◌, ℕ, ◌+◌, ◌<◌, ◌≤◌, ◌==◌, zero, suc, Bool, true, List, [], ◌∷◌, ◌++◌, length, map, sym, ap, ◌∙◌, subst, arith, filter, flat_map, eqb-true, inl, inr}
use Rattle.std.specs.List.{range_with_len}
use Rattle.std.proofs.lemmas.Bool.{eqb-false}
use Rattle.tez_lists.specs.Numbers.{In}
use Rattle.tez_lists.proofs.Cases.{cases}

pub in_filter : {X : Type 0} (q : X → Bool) (x : X) (xs : List X) → In x xs → q x ≡ true → In x (filter q xs)
in_filter q x [] h passes = absurd h
in_filter q x (y ∷ ys) (inl here) passes =
    let head : q y ≡ true = ap q (sym here) ∙ passes in
    rw head (inl here)
in_filter {X} q x (y ∷ ys) (inr later) passes = cases (q y)
    (λ e. rw e (inr (in_filter q x ys later passes)))
    (λ e. rw e (in_filter q x ys later passes))

pub in_append_left : {X : Type 0} (x : X) (xs ys : List X) → In x xs → In x (xs ++ ys)
in_append_left x [] ys h = absurd h
in_append_left x (z ∷ xs) ys (inl here) = inl here
in_append_left x (z ∷ xs) ys (inr later) = inr (in_append_left x xs ys later)

pub in_append_right : {X : Type 0} (x : X) (xs ys : List X) → In x ys → In x (xs ++ ys)
in_append_right x [] ys h = h
in_append_right x (z ∷ xs) ys h = inr (in_append_right x xs ys h)

pub in_map : {X Y : Type 0} (f : X → Y) (x : X) (xs : List X) → In x xs → In (f x) (map f xs)
in_map f x [] h = absurd h
in_map f x (y ∷ ys) (inl here) = inl (ap f here)
in_map f x (y ∷ ys) (inr later) = inr (in_map f x ys later)

pub in_flat_map : {X Y : Type 0} (f : X → List Y) (x : X) (y : Y) (xs : List X) → In x xs → In y (f x) → In y (flat_map f xs)
in_flat_map f x y [] h k = absurd h
in_flat_map f x y (z ∷ zs) (inl here) h = in_append_left y (f z) (flat_map f zs) (subst (λ w. In y (f w)) here h)
in_flat_map f x y (z ∷ zs) (inr later) h = in_append_right y (f z) (flat_map f zs) (in_flat_map f x y zs later h)

pub in_range_from : (a n v : ℕ) → a ≤ v → v < a + n → In v (range_with_len a n)
in_range_from a zero v low high = absurd (omega arith)
in_range_from a (suc n) v low high = cases (a == v)
    (λ e. inl (sym (eqb-true a v e)))
    (λ e. inr (in_range_from (a + 1) n v (let ne : a ≡ v → ⊥ = eqb-false a v e in omega arith) (omega arith)))

pub only_one : {X : Type 0} (x : X) (xs : List X) → In x xs → length xs ≡ 1 → xs ≡ x ∷ []
only_one x [] h e = absurd h
only_one x (y ∷ []) (inl here) e = ap (λ z. z ∷ []) (sym here)
only_one x (y ∷ []) (inr later) e = absurd later
only_one x (y ∷ z ∷ zs) h e = absurd (omega arith)
