-- What a search finds first in several lists, and in the list of sinks.
use Rattle.std.specs.Prelude.{◌≡◌, ℕ, ◌+◌, ◌<◌, ◌==◌, Bool, true, false, not, ◌&&◌, if◌then◌else◌, List, [], ◌∷◌, ◌++◌, map, slice_get, length, Option, Some, None, unwrap_or, option_and_then, refl}
use Rattle.std.specs.List.{find, flat_map, list_all}
use Rattle.std.specs.Option.{option_map}
use Rattle.std.proofs.Common.{ap, sym, ◌∙◌, inl, inr, arith}
use Rattle.tez_ids.specs.declared.AttemptId.{AttemptId}
use Rattle.tez_lists.specs.Numbers.{In}
use Rattle.tez_lists.proofs.Flat.{in-filter-out}
use Rattle.tez_plan.specs.Dag.{Dag}
use Rattle.tez_events.specs.declared.CoreEvent.{CoreEvent}
use Rattle.tez_events.specs.declared.CoreEvent.TheVariants.{Place}
use Rattle.tez_history.specs.Shape.{vertices, sinks, has_sink}
use Rattle.tez_history.specs.Steps.{is_first_without}
use Rattle.tez_progress.proofs.Members.{first_fails, numbers_in}
use Rattle.tez_master_model.proofs.Numbers.{get_below}
use Rattle.tez_pool_view.specs.View.{place_for}
use Rattle.tez_master_model.proofs.Pairs.{find-map, find-nowhere}
use Rattle.tez_master_model.specs.Read.{flag}
use Rattle.tez_master_model.specs.Choice.{or_else}

pub find_or : {X : Type 0} (p : X → Bool) (xs ys : List X) → find p (xs ++ ys) ≡ or_else (find p xs) (find p ys)
find_or p [] ys = refl
find_or {X} p (x ∷ xs) ys = by (find_or p xs ys) (p x) where
  by : find p (xs ++ ys) ≡ or_else (find p xs) (find p ys) → (b : Bool) → (if b then Some x else find p (xs ++ ys)) ≡ or_else (if b then Some x else find p xs) (find p ys)
  by ih true = refl
  by ih false = ih

pub find_next : {X : Type 0} (p : X → Bool) (x : X) (xs : List X) → find p (x ∷ xs) ≡ or_else (if p x then Some x else None) (find p xs)
find_next p x xs = by (p x) where
  by : (b : Bool) → (if b then Some x else find p xs) ≡ or_else (if b then Some x else None) (find p xs)
  by true = refl
  by false = refl

pub or_none : {X : Type 0} (o : Option X) → or_else o None ≡ o
or_none None = refl
or_none (Some x) = refl

pub same_or : {X : Type 0} {a b s t : Option X} → a ≡ b → s ≡ t → or_else a s ≡ or_else b t
same_or {a = a} {b = b} {s = s} {t = t} e f = ap (λ o. or_else o s) e ∙ ap (or_else b) f

-- ---- nothing is found

pub none_of : {X Y : Type 0} (p : Y → Bool) (f : X → Y) (xs : List X) → ((x : X) → p (f x) ≡ false) → find p (map f xs) ≡ None
none_of p f xs h = find-map p f xs ∙ ap (option_map f) (find-nowhere (λ x. p (f x)) xs h)

pub none_of_each : {X Y Z : Type 0} (p : Z → Bool) (f : X → Y → Z) (h : X → List Y) (xs : List X) → ((x : X) (y : Y) → p (f x y) ≡ false) → find p (flat_map (λ x. map (f x) (h x)) xs) ≡ None
none_of_each p f h [] none = refl
none_of_each p f h (x ∷ xs) none =
    find_or p (map (f x) (h x)) (flat_map (λ y. map (f y) (h y)) xs)
    ∙ ap (λ o. or_else o (find p (flat_map (λ y. map (f y) (h y)) xs))) (none_of p (f x) (h x) (none x))
    ∙ none_of_each p f h xs none

-- ---- the first without

pub first_without_same : (has : ℕ → Bool) (xs : List ℕ) → find (λ v. not (has v)) xs ≡ find (is_first_without has xs) xs
first_without_same has [] = refl
first_without_same has (x ∷ xs) = by (has x) refl (first_without_same has xs) where
  itself : (x == x) ≡ true
  itself = grind arith

  never : has x ≡ true → (b : Bool) → is_first_without has xs x ≡ b → b ≡ false
  never h true e = let f = first_fails has xs x e in cc
  never h false e = refl

  by : (b : Bool) → has x ≡ b → find (λ v. not (has v)) xs ≡ find (is_first_without has xs) xs
      → (if not b then Some x else find (λ v. not (has v)) xs)
      ≡ (if (if b then is_first_without has xs x else x == x) then Some x else find (λ v. if b then is_first_without has xs v else x == v) xs)
  by true e ih = ih ∙ ap (λ b. if b then Some x else find (is_first_without has xs) xs) (sym (never e (is_first_without has xs x) refl))
  by false e ih = ap (λ b. if b then Some x else find (λ v. x == v) xs) (sym itself)

-- where a test passes, and where it does not
pub where_one : (a : Bool) (f : ℕ → CoreEvent) (t : ℕ → Bool) (xs : List ℕ)
    → (if a then option_map f (find t xs) else None) ≡ option_map f (find (λ v. a && t v) xs)
where_one true f t xs = refl
where_one false f t xs = ap (option_map f) (sym (find-nowhere (λ v. false) xs (λ v. refl)))

pub where_not : (a : Bool) (t : ℕ → Bool) (xs : List ℕ) → (if a then None else find t xs) ≡ find (λ v. not a && t v) xs
where_not true t xs = sym (find-nowhere (λ v. false) xs (λ v. refl))
where_not false t xs = refl

-- ---- flags of vertices

pub flag_at : (h : ℕ → Bool) (g : Dag) (v : ℕ) → In v (sinks g) → flag (map h (vertices g)) v ≡ h v
flag_at h g v m =
    ap (λ o. unwrap_or o false) (get_below h (length g.vertices) v (inside v (numbers_in 0 (length g.vertices) v (in-filter-out (has_sink g) v (vertices g) m)))) where
      inside : (w : ℕ) → w < 0 + length g.vertices → w < length g.vertices
      inside w l = omega arith

pub all_same : {X : Type 0} (p q : X → Bool) (xs : List X) → ((x : X) → In x xs → p x ≡ q x) → list_all p xs ≡ list_all q xs
all_same p q [] h = refl
all_same p q (x ∷ xs) h = ap (λ b. b && list_all p xs) (h x (inl refl)) ∙ ap (λ b. q x && b) (all_same p q xs (λ y m. h y (inr m)))

-- ---- places

pub placed_first : (xs : List AttemptId) (p : Option ℕ) → option_and_then (λ a. option_map (Place a) p) (slice_get xs 0) ≡ place_for xs p
placed_first [] p = refl
placed_first (a ∷ xs) p = refl
