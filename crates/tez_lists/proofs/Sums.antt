-- Sums over lists that are made of other lists.
--     sum_by-flat_map, sum_by-filter      a sum over such a list is a sum over the list it is made of
--     sum_by-swap                         the order of two sums does not matter
--     sum_by-parts                        parts by tests, one of which each element passes, have the sum of the whole
use Rattle.std.proofs.Common.{◌≡◌, ℕ, ◌+◌, ◌*◌, Bool, cond, List, [], ◌∷◌, refl, sym, ap, ◌∙◌, arith, sum_by, count_by, filter, flat_map, zero-mul, one-mul, zero-add}
use Rattle.std.proofs.lemmas.List.Sums.{sum_by-cons, sum_by-append}
use Rattle.tez_lists.proofs.Cases.{cases}

pub sum_by-flat_map : {X A : Type 0} (g : A → ℕ) (f : X → List A) (xs : List X) → sum_by g (flat_map f xs) ≡ sum_by (λ x. sum_by g (f x)) xs
sum_by-flat_map g f [] = refl
sum_by-flat_map g f (x ∷ xs) = sum_by-append g (f x) (flat_map f xs) ∙ ap (λ n. sum_by g (f x) + n) (sum_by-flat_map g f xs) ∙ sym (sum_by-cons (λ y. sum_by g (f y)) x xs)

pub sum_by-filter : {X : Type 0} (g : X → ℕ) (p : X → Bool) (xs : List X) → sum_by g (filter p xs) ≡ sum_by (λ x. cond (p x) (g x) 0) xs
sum_by-filter g p [] = refl
sum_by-filter g p (x ∷ xs) =
    let rest = sum_by-filter g p xs in
    let a = sum_by-cons g x (filter p xs) in
    let b = sum_by-cons (λ y. cond (p y) (g y) 0) x xs in
    let total = sum_by (λ y. cond (p y) (g y) 0) xs in
    cases (p x)
    (λ e. ap (λ t. sum_by g (cond t (x ∷ filter p xs) (filter p xs))) e ∙ a ∙ ap (λ n. g x + n) rest ∙ ap (λ t. cond t (g x) 0 + total) (sym e) ∙ sym b)
    (λ e. ap (λ t. sum_by g (cond t (x ∷ filter p xs) (filter p xs))) e ∙ rest ∙ sym (zero-add total) ∙ ap (λ t. cond t (g x) 0 + total) (sym e) ∙ sym b)

pub sum_by-ext : {X : Type 0} (f g : X → ℕ) (xs : List X) → ((x : X) → f x ≡ g x) → sum_by f xs ≡ sum_by g xs
sum_by-ext f g xs e i = sum_by (λ x. e x i) xs

sum_by-zero : {X : Type 0} (xs : List X) → sum_by (λ x. 0) xs ≡ 0
sum_by-zero [] = refl
sum_by-zero {X} (x ∷ xs) = sum_by-cons {X = X} (λ y. 0) x xs ∙ ap (λ n. 0 + n) (sum_by-zero xs)

pub sum_by-plus : {X : Type 0} (f g : X → ℕ) (xs : List X) → sum_by (λ x. f x + g x) xs ≡ sum_by f xs + sum_by g xs
sum_by-plus f g [] = refl
sum_by-plus f g (x ∷ xs) =
    let a = sum_by-cons (λ y. f y + g y) x xs in
    let b = sum_by-cons f x xs in
    let c = sum_by-cons g x xs in
    let rest = sum_by-plus f g xs in
    omega arith

-- the order of two sums does not matter
pub sum_by-swap : {T X : Type 0} (h : T → X → ℕ) (ts : List T) (xs : List X) → sum_by (λ t. sum_by (h t) xs) ts ≡ sum_by (λ x. sum_by (λ t. h t x) ts) xs
sum_by-swap h ts [] = sum_by-zero ts
sum_by-swap h ts (x ∷ xs) =
    sum_by-ext (λ t. sum_by (h t) (x ∷ xs)) (λ t. h t x + sum_by (h t) xs) ts (λ t. sum_by-cons (h t) x xs)
    ∙ sum_by-plus (λ t. h t x) (λ t. sum_by (h t) xs) ts
    ∙ ap (λ n. sum_by (λ t. h t x) ts + n) (sum_by-swap h ts xs)
    ∙ sym (sum_by-cons (λ y. sum_by (λ t. h t y) ts) x xs)

-- as many times n as tests pass
pub sum_by-cond : {T : Type 0} (p : T → Bool) (n : ℕ) (ts : List T) → sum_by (λ t. cond (p t) n 0) ts ≡ count_by p ts * n
sum_by-cond p n [] = sym (zero-mul n)
sum_by-cond p n (t ∷ ts) =
    let a = sum_by-cons (λ s. cond (p s) n 0) t ts in
    let b = sum_by-cons (λ s. cond (p s) 1 0) t ts in
    let rest = sum_by-cond p n ts in
    cases (p t)
    (λ e. a ∙ ap (λ v. cond v n 0 + sum_by (λ s. cond (p s) n 0) ts) e ∙ ap (λ m. n + m) rest ∙ more (count_by p ts) n ∙ ap (λ m. m * n) (sym (b ∙ ap (λ v. cond v 1 0 + count_by p ts) e)))
    (λ e. a ∙ ap (λ v. cond v n 0 + sum_by (λ s. cond (p s) n 0) ts) e ∙ ap (λ m. 0 + m) rest ∙ less (count_by p ts) n ∙ ap (λ m. m * n) (sym (b ∙ ap (λ v. cond v 1 0 + count_by p ts) e)))
  where
    more : (k n : ℕ) → n + k * n ≡ (1 + k) * n
    more k n = omega arith

    less : (k n : ℕ) → 0 + k * n ≡ (0 + k) * n
    less k n = omega arith

-- parts by tests, exactly one of which passes at each element
pub sum_by-parts : {T X : Type 0} (passes : T → X → Bool) (ts : List T) (xs : List X) (g : X → ℕ) → ((x : X) → count_by (λ t. passes t x) ts ≡ 1) → sum_by g (flat_map (λ t. filter (passes t) xs) ts) ≡ sum_by g xs
sum_by-parts passes ts xs g one =
    sum_by-flat_map g (λ t. filter (passes t) xs) ts
    ∙ sum_by-ext (λ t. sum_by g (filter (passes t) xs)) (λ t. sum_by (λ x. cond (passes t x) (g x) 0) xs) ts (λ t. sum_by-filter g (passes t) xs)
    ∙ sum_by-swap (λ t x. cond (passes t x) (g x) 0) ts xs
    ∙ sum_by-ext (λ x. sum_by (λ t. cond (passes t x) (g x) 0) ts) g xs (λ x. sum_by-cond (λ t. passes t x) (g x) ts ∙ ap (λ n. n * g x) (one x) ∙ one-mul (g x))
