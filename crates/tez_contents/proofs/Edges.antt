-- Edges by their numbers.
--     edge_at         the edge of its own number
--     numbered_edge   an edge into a vertex is among those with their numbers
--     input_edge      the edge of an input
use Rattle.std.specs.Prelude.{◌≡◌, ◌⊎◌, ℕ, zero, suc, ◌+◌, ◌≤◌, ◌==◌, ◌&&◌, ◌||◌, Bool, true, false, List, [], ◌∷◌, ◌++◌, map, take, slice_get, Option, Some, refl}
use Rattle.std.specs.List.{flat_map, list_any, position_or_len, enumerate_from}
use Rattle.std.specs.Option.{option_map_or}
use Rattle.std.proofs.Common.{inl, inr, ap, sym, ◌∙◌, arith, subst}
use Rattle.std.proofs.lemmas.Bool.{eq-eqb, eqb-true}
use Rattle.tez_lists.specs.Numbers.{In}
use Rattle.tez_lists.proofs.Cases.{cases}
use Rattle.tez_lists.proofs.Members.{in_filter, in_map, in_flat_map}
use Rattle.tez_ids.specs.declared.AttemptId.{AttemptId}
use Rattle.tez_plan.specs.declared.parts.EdgeSpec.{EdgeSpec}
use Rattle.tez_plan.specs.Dag.{Dag, from, to, edges_into}
use Rattle.tez_plan.specs.Faults.{IsValid}
use Rattle.tez_plan.proofs.CheckLemmas.{valid_parts}
use Rattle.tez_history.specs.Shape.{edges_to, numbers_below}
use Rattle.tez_history.specs.History.{Past}
use Rattle.tez_history.specs.Derived.{Input, inputs, input_count}
use Rattle.tez_progress.proofs.Members.{clash, true_and, filter_in, in_numbers}
use Rattle.tez_contents.specs.Contents.{number_of}

-- ---- places in lists

pub in_at : {X : Type 0} (x : X) (xs : List X) → In x xs → (n : ℕ) × (slice_get xs n ≡ Some x)
in_at x [] h = absurd h
in_at x (y ∷ xs) (inl e) = (0, ap Some (sym e))
in_at x (y ∷ xs) (inr h) = let r = in_at x xs h in (suc r.0, r.1)

pub at_in : {X : Type 0} (x : X) (xs : List X) (n : ℕ) → slice_get xs n ≡ Some x → In x xs
at_in x [] n h = cc
at_in x (y ∷ xs) zero h = inl (let e : Some y ≡ Some x = h in cc)
at_in x (y ∷ xs) (suc n) h = inr (at_in x xs n h)

numbered_at : {X : Type 0} (x : X) (k n : ℕ) (xs : List X) → slice_get xs n ≡ Some x → In {X = ℕ × X} (k + n, x) (enumerate_from k xs)
numbered_at x k n [] h = cc
numbered_at {X} x k zero (y ∷ xs) h =
    let e : x ≡ y = (let z : Some y ≡ Some x = h in cc) in
    let z : k + 0 ≡ k = omega arith in
    inl (rw (z, e) refl)
numbered_at {X} x k (suc n) (y ∷ xs) h =
    let z : k + suc n ≡ k + 1 + n = omega arith in
    inr (subst (λ m. In {X = ℕ × X} (m, x) (enumerate_from (k + 1) xs)) (sym z) (numbered_at x (k + 1) n xs h))

at_numbered : {X : Type 0} (k : ℕ) (xs : List X) (e : ℕ × X) → In {X = ℕ × X} e (enumerate_from k xs) → (n : ℕ) × (e.0 ≡ k + n) × (slice_get xs n ≡ Some e.1)
at_numbered k [] e h = absurd h
at_numbered {X} k (x ∷ xs) e (inl h) =
    let a : e.0 ≡ k = ap (λ (p : ℕ × X). p.0) h in
    let b : e.1 ≡ x = ap (λ (p : ℕ × X). p.1) h in
    (0, omega (arith, a), ap Some (sym b))
at_numbered k (x ∷ xs) e (inr h) = let r = at_numbered (k + 1) xs e h in (suc r.0, omega (arith, r.1), r.2)

-- ---- the first that passes

first_place : {X : Type 0} (p : X → Bool) (xs : List X) (m : ℕ) (x : X) → slice_get xs m ≡ Some x → p x ≡ true → list_any p (take m xs) ≡ false → position_or_len p xs ≡ m
first_place p [] m x h k none = cc
first_place p (y ∷ xs) zero x h k none = let e : p y ≡ true = subst (λ z. p z ≡ true) (let q : Some x ≡ Some y = sym h in cc) k in rw e refl
first_place p (y ∷ xs) (suc m) x h k none = cases (p y)
    (λ e. let some : list_any p (take (suc m) (y ∷ xs)) ≡ true = ap (λ b. b || list_any p (take m xs)) e in clash some none)
    (λ e.
    let rest : list_any p (take m xs) ≡ false = ap (λ b. b || list_any p (take m xs)) (sym e) ∙ none in
    let more : 1 + position_or_len p xs ≡ suc (position_or_len p xs) = omega arith in
    rw e (more ∙ ap suc (first_place p xs m x h k rest)))

false_from : (b : Bool) → (b ≡ true → ⊥) → b ≡ false
false_from true h = absurd (h refl)
false_from false h = refl

pub edge_at : (g : Dag) (e : EdgeSpec) → IsValid g → In e g.edges → slice_get g.edges (number_of g e) ≡ Some e
edge_at g e valid h =
    let at = in_at e g.edges h in
    let test = λ (d : EdgeSpec). (from g e == from g d) && (to g e == to g d) in
    let own : option_map_or {T = EdgeSpec} {U = Bool} (λ s. list_any (λ t. (from g s == from g t) && (to g s == to g t)) (take at.0 g.edges)) (slice_get g.edges at.0) false ≡ true → ⊥ = (valid_parts g valid).own_edges at.0 in
    let none : list_any test (take at.0 g.edges) ≡ true → ⊥ = λ t. own (ap (λ (o : Option EdgeSpec). option_map_or {T = EdgeSpec} {U = Bool} (λ s. list_any (λ t. (from g s == from g t) && (to g s == to g t)) (take at.0 g.edges)) o false) at.1 ∙ t) in
    let place : number_of g e ≡ at.0 = first_place test g.edges at.0 e at.1 (true_and (eq-eqb (from g e) (from g e) refl) (eq-eqb (to g e) (to g e) refl)) (false_from (list_any test (take at.0 g.edges)) none) in
    ap (slice_get g.edges) place ∙ at.1

pub into_edges : (g : Dag) (v : ℕ) (e : EdgeSpec) → In e (edges_into g v) → In e g.edges × (to g e ≡ v)
into_edges g v e h = let k = filter_in (λ d. to g d == v) e g.edges h in (k.0, eqb-true (to g e) v k.1)

-- an input of an attempt over an edge into its vertex
pub input_in : (g : Dag) (past : Past) (a : AttemptId) (e : EdgeSpec) (i : ℕ) → IsValid g → In e (edges_into g a.task.vertex.0) → suc i ≤ input_count g past e a.task.index → In {X = Input} (number_of g e, e, i) (inputs g past a)
input_in g past a e i valid h low =
    let k = into_edges g a.task.vertex.0 e h in
    let n = number_of g e in
    let there : In {X = ℕ × EdgeSpec} (n, e) (enumerate_from 0 g.edges) = (let z : 0 + n ≡ n = omega arith in subst (λ m. In {X = ℕ × EdgeSpec} (m, e) (enumerate_from 0 g.edges)) z (numbered_at e 0 n g.edges (edge_at g e valid k.0))) in
    in_flat_map {X = ℕ × EdgeSpec} {Y = Input} (λ d. map (λ i. (d.0, d.1, i)) (numbers_below (input_count g past d.1 a.task.index))) (n, e) (n, e, i) (edges_to g a.task.vertex.0)
    (in_filter (λ d. to g d.1 == a.task.vertex.0) (n, e) (enumerate_from 0 g.edges) there (eq-eqb (to g e) a.task.vertex.0 k.1))
    (in_map {Y = Input} (λ i. (n, e, i)) i (numbers_below (input_count g past e a.task.index)) (in_numbers 0 (input_count g past e a.task.index) i (omega arith) (omega (arith, low))))

-- ---- the edge of an input

from-append : {X : Type 0} (x : X) (xs ys : List X) → In x (xs ++ ys) → In x xs ⊎ In x ys
from-append x [] ys h = inr h
from-append x (y ∷ xs) ys (inl e) = inl (inl e)
from-append {X} x (y ∷ xs) ys (inr h) = by (from-append x xs ys h) where
  by : In x xs ⊎ In x ys → In x (y ∷ xs) ⊎ In x ys
  by (inl k) = inl (inr k)
  by (inr k) = inr k

from-flat : {X Y : Type 0} (f : X → List Y) (y : Y) (xs : List X) → In y (flat_map f xs) → (x : X) × In x xs × In y (f x)
from-flat f y [] h = absurd h
from-flat {X} {Y} f y (x ∷ xs) h = by (λ m. from-flat f y xs m) (from-append y (f x) (flat_map f xs) h) where
  by : (In y (flat_map f xs) → (z : X) × In z xs × In y (f z)) → In y (f x) ⊎ In y (flat_map f xs) → (z : X) × In z (x ∷ xs) × In y (f z)
  by ih (inl k) = (x, inl refl, k)
  by ih (inr k) = let r = ih k in (r.0, inr r.1, r.2)

from-map : {X Y : Type 0} (f : X → Y) (y : Y) (xs : List X) → In y (map f xs) → (x : X) × In x xs × (y ≡ f x)
from-map f y [] h = absurd h
from-map f y (x ∷ xs) (inl e) = (x, inl refl, e)
from-map f y (x ∷ xs) (inr h) = let r = from-map f y xs h in (r.0, inr r.1, r.2)

pub input_edge : (g : Dag) (past : Past) (a : AttemptId) (k : Input) → In k (inputs g past a) → (slice_get g.edges k.0 ≡ Some k.1) × (to g k.1 ≡ a.task.vertex.0)
input_edge g past a k h =
    let r = from-flat (λ (e : ℕ × EdgeSpec). map (λ i. (e.0, e.1, i)) (numbers_below (input_count g past e.1 a.task.index))) k (edges_to g a.task.vertex.0) h in
    let q = from-map (λ i. (r.0.0, r.0.1, i)) k (numbers_below (input_count g past r.0.1 a.task.index)) r.2 in
    let f = filter_in (λ (e : ℕ × EdgeSpec). to g e.1 == a.task.vertex.0) r.0 (enumerate_from 0 g.edges) r.1 in
    let n = at_numbered 0 g.edges r.0 f.0 in
    let number : k.0 ≡ n.0 = (let z : k.0 ≡ r.0.0 = ap (λ (x : Input). x.0) q.2 in omega (arith, z, n.1)) in
    let spec : k.1 ≡ r.0.1 = ap (λ (x : Input). x.1) q.2 in
    (ap (slice_get g.edges) number ∙ n.2 ∙ ap Some (sym spec), ap (to g) spec ∙ eqb-true (to g r.0.1) a.task.vertex.0 f.1)
