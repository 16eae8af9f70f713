-- The bytes that a history tells of an attempt.
use Rattle.std.specs.Prelude.{◌≡◌, ◌⊎◌, ℕ, Bool, true, false, ◌&&◌, ◌==◌, if◌then◌else◌, cond, List, [], ◌∷◌, ◌++◌, map, length, reverse, Some, None, refl}
use Rattle.std.specs.List.{find}
use Rattle.std.specs.Option.{option_map_or}
use Rattle.std.proofs.Common.{ap, sym, ◌∙◌, arith, subst, inl, inr}
use Rattle.std.proofs.lemmas.Bool.Decides.{nat_tests}
use Rattle.std.proofs.lemmas.List.{reverse-append}
use Rattle.tez_ids.specs.declared.EdgeId.{EdgeId}
use Rattle.tez_ids.specs.declared.AttemptId.{AttemptId}
use Rattle.tez_events.specs.declared.Entry.TheVariants.{Succeeded, Made}
use Rattle.tez_lists.specs.Numbers.{In}
use Rattle.tez_lists.proofs.Members.{in_append_left, in_append_right, in_map}
use Rattle.tez_plan.specs.Dag.{Dag, edge}
use Rattle.tez_history.specs.Shape.{numbers_below}
use Rattle.tez_history.specs.History.{Past, extend, made_bytes}
use Rattle.tez_history.specs.Steps.{done_entries}
use Rattle.tez_laws.proofs.Same.{same_attempt-refl}
use Rattle.tez_laws.proofs.Feeding.{from-append, from-map}
use Rattle.tez_laws.proofs.Listed.{in_below}
use Rattle.tez_schedule_view.specs.Events.{as_made, told_bytes, Tells, HasNoBytes}

-- ---- lists from behind

one-more : {X : Type 0} (x : X) (xs : List X) → reverse (x ∷ xs) ≡ reverse xs ++ x ∷ []
one-more x xs = reverse-append (x ∷ []) xs

from-reverse : {X : Type 0} (y : X) (xs : List X) → In y (reverse xs) → In y xs
from-reverse y [] h = absurd h
from-reverse {X} y (x ∷ xs) h = by (λ k. from-reverse y xs k) (from-append y (reverse xs) (x ∷ []) (subst (In y) (one-more x xs) h)) where
  by : (In y (reverse xs) → In y xs) → In y (reverse xs) ⊎ In y (x ∷ []) → In y (x ∷ xs)
  by ih (inl k) = inr (ih k)
  by ih (inr (inl e)) = inl e
  by ih (inr (inr k)) = absurd k

in-reverse : {X : Type 0} (y : X) (xs : List X) → In y xs → In y (reverse xs)
in-reverse y [] h = absurd h
in-reverse y (x ∷ xs) (inl e) = subst (In y) (sym (one-more x xs)) (in_append_right y (reverse xs) (x ∷ []) (inl e))
in-reverse y (x ∷ xs) (inr h) = subst (In y) (sym (one-more x xs)) (in_append_left y (reverse xs) (x ∷ []) (in-reverse y xs h))

-- what is found, where all that pass say the same
found : {X : Type 0} (p : X → Bool) (f : X → ℕ) (n : ℕ) (xs : List X) (y : X) → In y xs → p y ≡ true → ((x : X) → In x xs → p x ≡ true → f x ≡ n) → option_map_or f (find p xs) 0 ≡ n
found p f n [] y h is same = absurd h
found {X} p f n (x ∷ xs) y h is same = by (p x) refl h (λ k. found p f n xs y k is (λ z i. same z (inr i))) where
  by : (b : Bool) → p x ≡ b → (y ≡ x) ⊎ In y xs → (In y xs → option_map_or f (find p xs) 0 ≡ n) → option_map_or f (cond b (Some x) (find p xs)) 0 ≡ n
  by true e k ih = same x (inl refl) e
  by false e (inl s) ih = let now : p x ≡ true = subst (λ z. p z ≡ true) s is in cc
  by false e (inr k) ih = ih k

find-last : {X : Type 0} (p : X → Bool) (f : X → ℕ) (x : X) (d : ℕ) (xs : List X) → option_map_or f (find p (xs ++ x ∷ [])) d ≡ option_map_or f (find p xs) (if p x then f x else d)
find-last {X} p f x d [] = by (p x) where
  by : (b : Bool) → option_map_or f (cond b (Some x) None) d ≡ (if b then f x else d)
  by true = refl
  by false = refl
find-last {X} p f x d (y ∷ ys) = by (p y) (find-last p f x d ys) where
  by : (b : Bool) → option_map_or f (find p (ys ++ x ∷ [])) d ≡ option_map_or f (find p ys) (if p x then f x else d)
      → option_map_or f (cond b (Some y) (find p (ys ++ x ∷ []))) d ≡ option_map_or f (cond b (Some y) (find p ys)) (if p x then f x else d)
  by true e = refl
  by false e = e

-- ---- the bytes

is_same : (m n : ℕ) → (m == n) ≡ true → m ≡ n
is_same m n h = grind (arith, nat_tests)

same_is : (n : ℕ) → (n == n) ≡ true
same_is n = grind (arith, nat_tests)

pub told_tells : (g : Dag) (past : Past) (a : AttemptId) → Tells g past a (told_bytes g past a)
told_tells g past a e low from =
    let rows = numbers_below (length g.edges) in
    found (λ (m : EdgeId × ℕ). m.0.0 == e) (λ m. m.1) (made_bytes a e past) (reverse (told_bytes g past a)) (edge e, made_bytes a e past)
    (in-reverse (edge e, made_bytes a e past) (told_bytes g past a) (in_map (λ k. (edge k, made_bytes a k past)) e rows (in_below (length g.edges) e low))) (same_is e)
    (λ m i is.
    let r = from-map (λ k. (edge k, made_bytes a k past)) m rows (from-reverse m (told_bytes g past a) i) in
    let at : r.0 ≡ e = is_same r.0 e (subst (λ (x : EdgeId × ℕ). (x.0.0 == e) ≡ true) r.2 is) in
    ap (λ (x : EdgeId × ℕ). x.1) r.2 ∙ ap (λ k. made_bytes a k past) at)

last_made : (a : AttemptId) (e : ℕ) (made : List (ℕ × ℕ)) (past : Past)
    → made_bytes a e (extend past (map (λ m. Made a (edge m.0) m.1) made)) ≡ option_map_or (λ m. m.1) (find (λ (m : EdgeId × ℕ). m.0.0 == e) (reverse (as_made made))) (made_bytes a e past)
last_made a e [] past = refl
last_made a e (x ∷ xs) past =
    last_made a e xs (Made a (edge x.0) x.1 ∷ past)
    ∙ ap (λ b. option_map_or (λ m. m.1) (find (λ (m : EdgeId × ℕ). m.0.0 == e) (reverse (as_made xs))) (if b && (x.0 == e) then x.1 else made_bytes a e past)) (same_attempt-refl a)
    ∙ sym (find-last (λ (m : EdgeId × ℕ). m.0.0 == e) (λ m. m.1) (edge x.0, x.1) (made_bytes a e past) (reverse (as_made xs)))
    ∙ ap (λ ms. option_map_or (λ m. m.1) (find (λ (m : EdgeId × ℕ). m.0.0 == e) ms) (made_bytes a e past)) (sym (one-more (edge x.0, x.1) (as_made xs)))

pub report_tells : (g : Dag) (past : Past) (a : AttemptId) (made : List (ℕ × ℕ)) → HasNoBytes past a → Tells g (extend past (done_entries a made)) a (as_made made)
report_tells g past a made none e low from =
    sym (last_made a e made (Succeeded a ∷ past) ∙ ap (option_map_or (λ m. m.1) (find (λ (m : EdgeId × ℕ). m.0.0 == e) (reverse (as_made made)))) (none e))
