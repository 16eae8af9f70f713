-- What the tasks get over the edges is together what the vertex gets.
--     edges_whole        over several edges, where it holds of each
--     primary_whole      with a source too
use Rattle.std.proofs.Common.{◌≡◌, ℕ, ◌+◌, Bool, cond, List, [], ◌∷◌, ◌++◌, refl, sym, ap, ap₂, ◌∙◌, sum_by, filter, flat_map, bytes_eq}
use Rattle.std.specs.List.{AllByRecursion}
use Rattle.std.proofs.lemmas.List.Sums.{sum_by-cons, sum_by-append}
use Rattle.std.proofs.lemmas.List.Concat.{flat_map-append}
use Rattle.std.proofs.lemmas.List.Elements.{filter-append}
use Rattle.tez_record.specs.Bag.{sort}
use Rattle.tez_lists.proofs.Cases.{cases}
use Rattle.tez_record.proofs.BagLemmas.{same_bag, sum_by-same}
use Rattle.tez_lists.proofs.Sums.{sum_by-flat_map, sum_by-ext, sum_by-swap, sum_by-plus}
use Rattle.tez_record.proofs.PartsLemmas.{flat_map-same}

sum_by-all : {X : Type 0} (f g : X → ℕ) (xs : List X) → AllByRecursion (λ x. f x ≡ g x) xs → sum_by f xs ≡ sum_by g xs
sum_by-all f g [] all = refl
sum_by-all f g (x ∷ xs) all = sum_by-cons f x xs ∙ ap₂ (λ a b. a + b) all.0 (sum_by-all f g xs all.1) ∙ sym (sum_by-cons g x xs)

each_count : {X : Type 0} (P Q : X → Type 0) → ((x : X) → P x → Q x) → (xs : List X) → AllByRecursion P xs → AllByRecursion Q xs
each_count P Q h [] all = tt
each_count P Q h (x ∷ xs) all = (h x all.0, each_count P Q h xs all.1)

module _ {T X : Type 0} (share : T → X → List (List ℕ)) (whole : X → List (List ℕ)) (ts : List T) where
  abbrev pub IsWhole : X → Type 0
  IsWhole x = sort (flat_map (λ t. share t x) ts) ≡ sort (whole x)

  sum_by-edges : (g : List ℕ → ℕ) (xs : List X) → AllByRecursion IsWhole xs → sum_by g (flat_map (λ t. flat_map (share t) xs) ts) ≡ sum_by g (flat_map whole xs)
  sum_by-edges g xs all =
      sum_by-flat_map g (λ t. flat_map (share t) xs) ts
      ∙ sum_by-ext (λ t. sum_by g (flat_map (share t) xs)) (λ t. sum_by (λ x. sum_by g (share t x)) xs) ts (λ t. sum_by-flat_map g (share t) xs)
      ∙ sum_by-swap (λ t x. sum_by g (share t x)) ts xs
      ∙ sum_by-all (λ x. sum_by (λ t. sum_by g (share t x)) ts) (λ x. sum_by g (whole x)) xs
      (each_count IsWhole (λ x. sum_by (λ t. sum_by g (share t x)) ts ≡ sum_by g (whole x))
      (λ x e. sym (sum_by-flat_map g (λ t. share t x) ts) ∙ sum_by-same g (flat_map (λ t. share t x) ts) (whole x) e) xs all)
      ∙ sym (sum_by-flat_map g whole xs)

  pub edges_whole : (xs : List X) → AllByRecursion IsWhole xs → sort (flat_map (λ t. flat_map (share t) xs) ts) ≡ sort (flat_map whole xs)
  edges_whole xs all = same_bag (flat_map (λ t. flat_map (share t) xs) ts) (flat_map whole xs) (λ r. sum_by-edges (λ s. cond (bytes_eq r s) 1 0) xs all)

  pub primary_whole : (part : T → List (List ℕ)) (source : List (List ℕ)) (xs : List X) → sort (flat_map part ts) ≡ sort source → AllByRecursion IsWhole xs
      → sort (flat_map (λ t. part t ++ flat_map (share t) xs) ts) ≡ sort (source ++ flat_map whole xs)
  primary_whole part source xs e all = same_bag (flat_map (λ t. part t ++ flat_map (share t) xs) ts) (source ++ flat_map whole xs) (λ r.
      let one = λ (s : List ℕ). cond (bytes_eq r s) 1 0 in
      sum_by-flat_map one (λ t. part t ++ flat_map (share t) xs) ts
      ∙ sum_by-ext (λ t. sum_by one (part t ++ flat_map (share t) xs)) (λ t. sum_by one (part t) + sum_by one (flat_map (share t) xs)) ts (λ t. sum_by-append one (part t) (flat_map (share t) xs))
      ∙ sum_by-plus (λ t. sum_by one (part t)) (λ t. sum_by one (flat_map (share t) xs)) ts
      ∙ ap₂ (λ a b. a + b)
      (sym (sum_by-flat_map one part ts) ∙ sum_by-same one (flat_map part ts) source e)
      (sym (sum_by-flat_map one (λ t. flat_map (share t) xs) ts) ∙ sum_by-edges one xs all)
      ∙ sym (sum_by-append one source (flat_map whole xs)))

pub flat_map-flat_map : {X Y A : Type 0} (f : Y → List A) (g : X → List Y) (xs : List X) → flat_map f (flat_map g xs) ≡ flat_map (λ x. flat_map f (g x)) xs
flat_map-flat_map f g [] = refl
flat_map-flat_map {A = A} f g (x ∷ xs) = flat_map-append f (g x) (flat_map g xs) ∙ ap (λ (rest : List A). flat_map f (g x) ++ rest) (flat_map-flat_map f g xs)

pub filter-flat_map : {X A : Type 0} (q : A → Bool) (g : X → List A) (xs : List X) → filter q (flat_map g xs) ≡ flat_map (λ x. filter q (g x)) xs
filter-flat_map q g [] = refl
filter-flat_map {A = A} q g (x ∷ xs) = filter-append q (g x) (flat_map g xs) ∙ ap (λ (rest : List A). filter q (g x) ++ rest) (filter-flat_map q g xs)

pub filter-filter : {A : Type 0} (p q : A → Bool) (xs : List A) → filter p (filter q xs) ≡ filter q (filter p xs)
filter-filter p q [] = refl
filter-filter {A} p q (x ∷ xs) = cases (p x)
    (λ a. cases (q x)
    (λ b. rw (a, b, a) (ap (λ (rest : List A). x ∷ rest) (filter-filter p q xs)))
    (λ b. rw (a, b) (filter-filter p q xs)))
    (λ a. cases (q x)
    (λ b. rw (a, b, a) (filter-filter p q xs))
    (λ b. rw (a, b) (filter-filter p q xs)))

-- a head that goes record by record
pub by_record : {T : Type 0} (f : List ℕ → List (List ℕ)) (prim : T → List (List ℕ)) (ts : List T) (whole : List (List ℕ)) → sort (flat_map prim ts) ≡ sort whole → sort (flat_map (λ t. flat_map f (prim t)) ts) ≡ sort (flat_map f whole)
by_record f prim ts whole e = ap sort (sym (flat_map-flat_map f prim ts)) ∙ flat_map-same f (flat_map prim ts) whole e

pub filter_is : (p : List ℕ → Bool) (xs : List (List ℕ)) → filter p xs ≡ flat_map (λ x. cond (p x) (x ∷ []) []) xs
filter_is p [] = refl
filter_is p (x ∷ xs) = cases (p x)
    (λ e. rw e (ap (λ (rest : List (List ℕ)). x ∷ rest) (filter_is p xs)))
    (λ e. rw e (filter_is p xs))

-- a filter that asks something of each record by itself
pub by_filter : {T : Type 0} (p : List ℕ → Bool) (prim : T → List (List ℕ)) (ts : List T) (whole : List (List ℕ)) → sort (flat_map prim ts) ≡ sort whole → sort (flat_map (λ t. filter p (prim t)) ts) ≡ sort (filter p whole)
by_filter p prim ts whole e =
    ap (λ f. sort (flat_map f ts)) (λ i t. filter_is p (prim t) i)
    ∙ by_record (λ x. cond (p x) (x ∷ []) []) prim ts whole e
    ∙ ap sort (sym (filter_is p whole))
