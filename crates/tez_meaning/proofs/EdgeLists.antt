-- Lists of edges by their kinds.
--     filter_both          those of two kinds
--     of_kind              what holds of those of a kind
--     Pairwise             a relation of each element and each later one
--     one_of               a list of one element
use Rattle.std.proofs.Common.{◌≡◌, ◌∙◌, ℕ, zero, suc, ◌+◌, ◌<◌, ◌≤◌, ◌&&◌, ◌||◌, Bool, true, false, cond, not, List, [], ◌∷◌, length, take, filter, Option, Some, None, slice_get, refl, sym, ap, subst, arith}
use Rattle.std.specs.List.{AllByRecursion, list_any, list_all, position_or_len}
use Rattle.std.specs.Option.{option_map_or}
use Rattle.std.proofs.lemmas.Bool.{and_parts, or_left, or_right, false_from_ne_true}
use Rattle.tez_lists.proofs.Cases.{cases, both}
use Rattle.tez_plan.proofs.OrderLemmas.{all_filter}
use Rattle.tez_plan.proofs.RankLemmas.{all_both}

pub filter_both : {X : Type 0} (p q : X → Bool) (xs : List X) → filter (λ x. p x && q x) xs ≡ filter q (filter p xs)
filter_both p q [] = refl
filter_both {X} p q (x ∷ xs) = cases (p x)
    (λ a. cases (q x)
    (λ b. rw (a, b) (ap (λ (rest : List X). x ∷ rest) (filter_both p q xs)))
    (λ b. rw (a, b) (filter_both p q xs)))
    (λ a. rw a (filter_both p q xs))

pub all_from_test : {X : Type 0} (test : X → Bool) (xs : List X) → list_all test xs ≡ true → AllByRecursion (λ x. test x ≡ true) xs
all_from_test test [] h = tt
all_from_test test (x ∷ xs) h = let parts = and_parts _ _ h in (parts.0, all_from_test test xs parts.1)

-- what holds of those of a kind
pub of_kind : {X : Type 0} (P : X → Type 0) (kind : X → Bool) (xs : List X) → AllByRecursion P (filter kind xs) → AllByRecursion (λ x. kind x ≡ true → P x) xs
of_kind P kind [] all = tt
of_kind P kind (x ∷ xs) all = cases (kind x)
    (λ e. let those : AllByRecursion P (x ∷ filter kind xs) = subst (λ b. AllByRecursion P (cond b (x ∷ filter kind xs) (filter kind xs))) e all in ((λ k. those.0), of_kind P kind xs those.1))
    (λ e. let those : AllByRecursion P (filter kind xs) = subst (λ b. AllByRecursion P (cond b (x ∷ filter kind xs) (filter kind xs))) e all in ((λ k. both k e), of_kind P kind xs those))

pub none_of_kind : {X : Type 0} (kind : X → Bool) (xs : List X) → length (filter kind xs) ≡ 0 → AllByRecursion (λ x. kind x ≡ false) xs
none_of_kind kind [] h = tt
none_of_kind kind (x ∷ xs) h = cases (kind x)
    (λ e. let wrong : suc (length (filter kind xs)) ≡ 0 = ap (λ b. length (cond b (x ∷ filter kind xs) (filter kind xs))) (sym e) ∙ h in absurd (omega arith))
    (λ e. (e, none_of_kind kind xs (ap (λ b. length (cond b (x ∷ filter kind xs) (filter kind xs))) (sym e) ∙ h)))

-- R holds of each element and each later one
pub Pairwise : {X : Type 0} → (X → X → Type 0) → List X → Type 0
Pairwise R [] = Unit {0}
Pairwise R (x ∷ xs) = AllByRecursion (R x) xs × Pairwise R xs

pub pairwise_filter : {X : Type 0} (P : X → Type 0) (R Q : X → X → Type 0) (kind : X → Bool) → ((x y : X) → kind x ≡ true → kind y ≡ true → P x → P y → R x y → Q x y) → (xs : List X) → AllByRecursion P xs → Pairwise R xs → Pairwise Q (filter kind xs)
unfolding Pairwise
pairwise_filter P R Q kind h [] all pairs = tt
pairwise_filter P R Q kind h (x ∷ xs) all pairs = cases (kind x)
    (λ e. rw e (all_filter (λ y. P y × R x y) (Q x) kind (λ y k both_facts. h x y e k all.0 both_facts.0 both_facts.1) xs (all_both P (R x) xs all.1 pairs.0), pairwise_filter P R Q kind h xs all.1 pairs.1))
    (λ e. rw e (pairwise_filter P R Q kind h xs all.1 pairs.1))

pub at_most_one : {X : Type 0} (xs : List X) → Pairwise (λ x y. ⊥) xs → length xs ≤ 1
unfolding Pairwise
at_most_one [] h = omega arith
at_most_one (x ∷ []) h = omega arith
at_most_one (x ∷ y ∷ xs) h = absurd h.0.0

-- a test that fails at each place, at the element there
each_fails : {X : Type 0} (f : ℕ → X → Bool) (g : X → Bool) → ((n : ℕ) (x : X) → g x ≡ true → f n x ≡ true) → (xs : List X) → ((n : ℕ) → option_map_or (f n) (slice_get xs n) false ≡ true → ⊥) → AllByRecursion (λ x. g x ≡ false) xs
each_fails f g imp [] h = tt
each_fails f g imp (x ∷ xs) h = (false_from_ne_true (g x) (λ t. h zero (imp zero x t)), each_fails (λ n. f (suc n)) g (λ n. imp (suc n)) xs (λ n. h (suc n)))

weaker_at : {X : Type 0} (f g : X → Bool) → ((x : X) → f x ≡ true → g x ≡ true) → (o : Option X) → option_map_or f o false ≡ true → option_map_or g o false ≡ true
weaker_at f g h None e = e
weaker_at f g h (Some x) e = h x e

-- no element is the same as an earlier one
pub all_apart : {X : Type 0} (same : X → X → Bool) (xs : List X) → ((n : ℕ) → option_map_or (λ x. list_any (same x) (take n xs)) (slice_get xs n) false ≡ true → ⊥) → Pairwise (λ y x. same x y ≡ false) xs
unfolding Pairwise
all_apart same [] h = tt
all_apart same (y ∷ xs) h = (
  each_fails (λ n x. same x y || list_any (same x) (take n xs)) (λ x. same x y) (λ n x t. or_left _ _ t) xs (λ n. h (suc n)),
  all_apart same xs (λ n t. h (suc n) (weaker_at (λ x. list_any (same x) (take n xs)) (λ x. same x y || list_any (same x) (take n xs)) (λ x k. or_right _ _ k) (slice_get xs n) t)),
)

pub length_split : {X : Type 0} (q : X → Bool) (xs : List X) → length (filter q xs) + length (filter (λ x. not (q x)) xs) ≡ length xs
length_split q [] = refl
length_split q (x ∷ xs) =
    let rest = length_split q xs in
    cases (q x) (λ e. rw e (omega arith)) (λ e. rw e (omega arith))

pub filter_agree_all : {X : Type 0} (f g : X → Bool) (xs : List X) → AllByRecursion (λ x. f x ≡ g x) xs → filter f xs ≡ filter g xs
filter_agree_all f g [] all = refl
filter_agree_all f g (x ∷ xs) all = λ i. cond (all.0 i) (x ∷ filter_agree_all f g xs all.1 i) (filter_agree_all f g xs all.1 i)

pub some_of_kind : {X : Type 0} (kind : X → Bool) (xs : List X) → list_any kind xs ≡ true → 0 < length (filter kind xs)
some_of_kind kind [] h = cc
some_of_kind kind (x ∷ xs) h = cases (kind x) (λ e. rw e (omega arith)) (λ e. rw e (some_of_kind kind xs (ap (λ b. b || list_any kind xs) (sym e) ∙ h)))

pub any_weaker : {X : Type 0} (f g : X → Bool) → ((x : X) → f x ≡ true → g x ≡ true) → (xs : List X) → list_any f xs ≡ true → list_any g xs ≡ true
any_weaker f g h [] e = cc
any_weaker f g h (x ∷ xs) e = cases (f x)
    (λ t. or_left _ _ (h x t))
    (λ t. or_right _ _ (any_weaker f g h xs (ap (λ b. b || list_any f xs) (sym t) ∙ e)))

-- the element at the first place that passes
pub at_position : {X : Type 0} (q : X → Bool) (xs : List X) (x : X) → slice_get xs (position_or_len q xs) ≡ Some x → q x ≡ true
at_position q [] x e = cc
at_position q (y ∷ xs) x e = cases (q y)
    (λ t. let here : Some y ≡ Some x = ap (λ b. slice_get (y ∷ xs) (cond (not b) (1 + position_or_len q xs) 0)) (sym t) ∙ e in let same : y ≡ x = cc in ap q (sym same) ∙ t)
    (λ t. at_position q xs x (ap (slice_get (y ∷ xs)) (one_more (position_or_len q xs)) ∙ ap (λ b. slice_get (y ∷ xs) (cond (not b) (1 + position_or_len q xs) 0)) (sym t) ∙ e))
  where
    one_more : (n : ℕ) → suc n ≡ 1 + n
    one_more n = omega arith

pub some_at : {X : Type 0} (xs : List X) (i : ℕ) → i < length xs → (x : X) × (slice_get xs i ≡ Some x)
some_at [] i low = absurd (omega arith)
some_at (x ∷ xs) zero low = (x, refl)
some_at (x ∷ xs) (suc i) low = some_at xs i (omega arith)

-- a list of one element
pub one_of : {X : Type 0} (xs : List X) → length xs ≡ 1 → (x : X) × (xs ≡ x ∷ [])
one_of [] e = absurd (omega arith)
one_of (x ∷ []) e = (x, refl)
one_of (x ∷ y ∷ xs) e = absurd (omega arith)
