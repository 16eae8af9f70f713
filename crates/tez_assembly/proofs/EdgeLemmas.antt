-- Edges with their numbers, and without.
--     into_plain, ahead_plain, beside_plain      the edges into a vertex, past its side, and into its side
--     keys_plain                                 the keys of a head
--     map_plain, parts_plain, records_plain      what is made of edges
--     number_same                                the number of an edge is its own
use Rattle.std.proofs.Common.{◌≡◌, ◌∙◌, ℕ, zero, suc, ◌+◌, ◌==◌, ◌&&◌, ◌||◌, Bool, true, false, cond, not, List, [], ◌∷◌, ◌++◌, map, filter, flat_map, take, Option, Some, slice_get, inl, inr, refl, sym, ap, ap₂, subst, arith}
use Rattle.std.specs.List.{enumerate_from, list_any, position_or_len}
use Rattle.std.specs.Option.{option_map_or}
use Rattle.std.proofs.lemmas.Bool.{and_from, eq-eqb, false_from_ne_true}
use Rattle.std.proofs.lemmas.List.{map-append}
use Rattle.tez_lists.specs.Numbers.{In}
use Rattle.tez_lists.proofs.Cases.{cases, both}
use Rattle.tez_lists.proofs.Flat.{in-filter-out}
use Rattle.tez_ids.specs.declared.VertexId.{VertexId}
use Rattle.tez_plan.specs.declared.parts.EdgeSpec.{EdgeSpec}
use Rattle.tez_plan.specs.declared.parts.Head.{Head}
use Rattle.tez_plan.specs.Dag.{Dag, from, to, vertex, edges_into, is_broadcast}
use Rattle.tez_plan.specs.Faults.{IsValid}
use Rattle.tez_plan.proofs.CheckLemmas.{valid_parts}
use Rattle.tez_meaning.specs.Value.{is_left}
use Rattle.tez_meaning.proofs.JoinLemmas.{ahead_of}
use Rattle.tez_history.specs.Shape.{Edge, edges_to}
use Rattle.tez_contents.specs.Contents.{number_of}
use Rattle.tez_assembly.specs.Order.{Records, ahead, beside, key_at, keys_for, part_for}

-- ---- without numbers

pub without : (q : EdgeSpec → Bool) (xs : List Edge) → map (λ (e : Edge). e.1) (filter (λ e. q e.1) xs) ≡ filter q (map (λ (e : Edge). e.1) xs)
without q [] = refl
without q (x ∷ xs) = cases (q x.1)
    (λ t. rw t (ap (λ (rest : List EdgeSpec). x.1 ∷ rest) (without q xs)))
    (λ t. rw t (without q xs))

pub plain : (n : ℕ) (xs : List EdgeSpec) → map (λ (e : Edge). e.1) (enumerate_from n xs) ≡ xs
plain n [] = refl
plain n (x ∷ xs) = ap (λ (rest : List EdgeSpec). x ∷ rest) (plain (n + 1) xs)

pub into_plain : (g : Dag) (v : ℕ) → map (λ (e : Edge). e.1) (edges_to g v) ≡ edges_into g v
into_plain g v = without (λ e. to g e == v) (enumerate_from 0 g.edges) ∙ ap (filter (λ e. to g e == v)) (plain 0 g.edges)

pub ahead_plain : (g : Dag) (v : ℕ) → map (λ (e : Edge). e.1) (ahead g v) ≡ ahead_of g v
ahead_plain g v = without (λ e. not (is_broadcast e)) (edges_to g v) ∙ ap (filter (λ e. not (is_broadcast e))) (into_plain g v)

pub beside_plain : (g : Dag) (v : ℕ) → map (λ (e : Edge). e.1) (beside g v) ≡ filter is_broadcast (edges_into g v)
beside_plain g v = without is_broadcast (edges_to g v) ∙ ap (filter is_broadcast) (into_plain g v)

pub map_plain : {Y : Type 0} (f : EdgeSpec → Y) (xs : List Edge) → map (λ e. f e.1) xs ≡ map f (map (λ (e : Edge). e.1) xs)
map_plain f [] = refl
map_plain {Y} f (x ∷ xs) = ap (λ (rest : List Y). f x.1 ∷ rest) (map_plain f xs)

pub keys_plain : (g : Dag) (v : ℕ) (head : Head) → keys_for g v head ≡ map (key_at g) (filter (is_left head) (ahead_of g v) ++ filter (λ e. not (is_left head e)) (ahead_of g v))
keys_plain g v head =
    let left : List Edge = filter (λ e. is_left head e.1) (ahead g v) in
    let right : List Edge = filter (λ e. not (is_left head e.1)) (ahead g v) in
    map_plain (key_at g) (left ++ right)
    ∙ ap (map (key_at g)) (map-append (λ (e : Edge). e.1) left right
    ∙ ap₂ (λ (xs ys : List EdgeSpec). xs ++ ys)
    (without (is_left head) (ahead g v) ∙ ap (filter (is_left head)) (ahead_plain g v))
    (without (λ e. not (is_left head e)) (ahead g v) ∙ ap (filter (λ e. not (is_left head e))) (ahead_plain g v)))

-- ---- what is had of edges

abbrev pub part_at : Dag → (EdgeSpec → Records) → EdgeSpec → Option VertexId × Records
part_at g f e = (Some (vertex (from g e)), f e)

-- f is what there is of each edge
abbrev pub Agrees : (EdgeSpec → Records) → (ℕ → Records) → List Edge → Type 0
Agrees f copy xs = (e : Edge) → In e xs → f e.1 ≡ copy e.0

pub parts_plain : (g : Dag) (f : EdgeSpec → Records) (copy : ℕ → Records) (xs : List Edge) → Agrees f copy xs → map (part_for g copy) xs ≡ map (part_at g f) (map (λ (e : Edge). e.1) xs)
parts_plain g f copy [] h = refl
parts_plain g f copy (x ∷ xs) h =
    ap₂ (λ (r : Records) (rest : List (Option VertexId × Records)). (Some (vertex (from g x.1)), r) ∷ rest) (sym (h x (inl refl))) (parts_plain g f copy xs (λ e i. h e (inr i)))

pub records_plain : (f : EdgeSpec → Records) (copy : ℕ → Records) (xs : List Edge) → Agrees f copy xs → flat_map (λ (e : Edge). copy e.0) xs ≡ flat_map f (map (λ (e : Edge). e.1) xs)
records_plain f copy [] h = refl
records_plain f copy (x ∷ xs) h = ap₂ (λ (r rest : Records). r ++ rest) (sym (h x (inl refl))) (records_plain f copy xs (λ e i. h e (inr i)))

pub agrees_filter : (f : EdgeSpec → Records) (copy : ℕ → Records) (q : Edge → Bool) (xs : List Edge) → Agrees f copy xs → Agrees f copy (filter q xs)
agrees_filter f copy q xs h e i = h e (in-filter-out q e xs i)

-- ---- numbers

pub at_numbered : {X : Type 0} (k : ℕ) (xs : List X) (e : ℕ × X) → In {X = ℕ × X} e (enumerate_from k xs) → (n : ℕ) × (e.0 ≡ k + n) × (slice_get xs n ≡ Some e.1)
at_numbered k [] e h = absurd h
at_numbered {X} k (x ∷ xs) e (inl h) =
    let a : e.0 ≡ k = ap (λ (p : ℕ × X). p.0) h in
    let b : e.1 ≡ x = ap (λ (p : ℕ × X). p.1) h in
    (0, omega (arith, a), ap Some (sym b))
at_numbered k (x ∷ xs) e (inr h) = let r = at_numbered (k + 1) xs e h in (suc r.0, omega (arith, r.1), r.2)

pub edge_of_number : (g : Dag) (e : Edge) → In e (enumerate_from 0 g.edges) → slice_get g.edges e.0 ≡ Some e.1
edge_of_number g e h =
    let r = at_numbered 0 g.edges e h in
    let same : e.0 ≡ r.0 = omega (arith, r.1) in
    ap (slice_get g.edges) same ∙ r.2

first_place : {X : Type 0} (p : X → Bool) (xs : List X) (m : ℕ) (x : X) → slice_get xs m ≡ Some x → p x ≡ true → list_any p (take m xs) ≡ false → position_or_len p xs ≡ m
first_place p [] m x h k none = cc
first_place p (y ∷ xs) zero x h k none = let e : p y ≡ true = subst (λ z. p z ≡ true) (let q : Some x ≡ Some y = sym h in cc) k in rw e refl
first_place p (y ∷ xs) (suc m) x h k none = cases (p y)
    (λ e. let some : list_any p (take (suc m) (y ∷ xs)) ≡ true = ap (λ b. b || list_any p (take m xs)) e in both some none)
    (λ e.
    let rest : list_any p (take m xs) ≡ false = ap (λ b. b || list_any p (take m xs)) (sym e) ∙ none in
    let more : 1 + position_or_len p xs ≡ suc (position_or_len p xs) = omega arith in
    rw e (more ∙ ap suc (first_place p xs m x h k rest)))

pub number_same : (g : Dag) (e : Edge) → IsValid g → In e (enumerate_from 0 g.edges) → number_of g e.1 ≡ e.0
number_same g e valid h =
    let d = e.1 in
    let at = edge_of_number g e h in
    let test = λ (t : EdgeSpec). (from g d == from g t) && (to g d == to g t) in
    let found = λ (o : Option EdgeSpec). option_map_or {T = EdgeSpec} {U = Bool} (λ s. list_any (λ t. (from g s == from g t) && (to g s == to g t)) (take e.0 g.edges)) o false in
    let none : list_any test (take e.0 g.edges) ≡ true → ⊥ = λ t. (valid_parts g valid).own_edges e.0 (ap found at ∙ t) in
    first_place test g.edges e.0 d at (and_from _ _ (eq-eqb (from g d) (from g d) refl) (eq-eqb (to g d) (to g d) refl)) (false_from_ne_true (list_any test (take e.0 g.edges)) none)

pub numbers_agree : (g : Dag) (v : ℕ) (copy : ℕ → Records) → IsValid g → Agrees (λ e. copy (number_of g e)) copy (edges_to g v)
numbers_agree g v copy valid e i = ap copy (number_same g e valid (in-filter-out (λ d. to g d.1 == v) e (enumerate_from 0 g.edges) i))
