-- How many pass a test.
use Rattle.std.proofs.Common.{◌≡◌, ℕ, ◌+◌, ◌≤◌, Bool, true, false, cond, List, [], ◌∷◌, ◌++◌, take, refl, ap, ◌∙◌, arith, count_by}
use Rattle.std.specs.List.{list_any}
use Rattle.std.proofs.lemmas.Bool.{or_parts}
use Rattle.std.proofs.lemmas.List.Sums.{sum_by-cons, sum_by-append, sum_by-take-le}
use Rattle.tez_lists.proofs.Cases.{cases}

pub count_cons : {X : Type 0} (p : X → Bool) (x : X) (xs : List X) → count_by p (x ∷ xs) ≡ cond (p x) 1 0 + count_by p xs
count_cons p x xs = sum_by-cons (λ y. cond (p y) 1 0) x xs

pub count_more : {X : Type 0} (p : X → Bool) (xs : List X) (x : X) → count_by p (xs ++ x ∷ []) ≡ count_by p xs + count_by p (x ∷ [])
count_more p xs x = sum_by-append (λ y. cond (p y) 1 0) xs (x ∷ [])

pub count_take : {X : Type 0} (p : X → Bool) (n : ℕ) (xs : List X) → count_by p (take n xs) ≤ count_by p xs
count_take p n xs = sum_by-take-le (λ y. cond (p y) 1 0) xs n

pub none_counted : {X : Type 0} (p : X → Bool) (xs : List X) → list_any p xs ≡ false → count_by p xs ≡ 0
none_counted p [] h = refl
none_counted p (x ∷ xs) h =
    let parts = or_parts (p x) (list_any p xs) h in
    count_cons p x xs ∙ ap (λ b. cond b 1 0 + count_by p xs) parts.0 ∙ ap (λ n. 0 + n) (none_counted p xs parts.1)

pub some_counted : {X : Type 0} (p : X → Bool) (xs : List X) → list_any p xs ≡ true → 1 ≤ count_by p xs
some_counted p [] h = cc
some_counted {X} p (x ∷ xs) h =
    let split : count_by p (x ∷ xs) ≡ cond (p x) 1 0 + count_by p xs = count_cons p x xs in
    cases (p x)
    (λ e. let one : count_by p (x ∷ xs) ≡ 1 + count_by p xs = split ∙ ap (λ b. cond b 1 0 + count_by p xs) e in omega (arith, one))
    (λ e. let rest : 1 ≤ count_by p xs = some_counted p xs (rw e at h) in omega (arith, split, rest))
