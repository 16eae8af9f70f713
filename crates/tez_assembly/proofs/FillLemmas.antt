-- What is gathered over edges, put into inputs, is what an order has of them.
--     gathered_is        what is gathered, by the numbers of the edges
--     parts_are          the lists that the head reads
--     side_is            the side
--     all_inside         each number is that of an edge
--     order_made         the order of such parts
use Rattle.std.proofs.Common.{◌≡◌, ◌∙◌, ℕ, zero, suc, ◌+◌, ◌<◌, ◌≤◌, ◌==◌, ◌&&◌, Bool, true, false, cond, not, List, [], ◌∷◌, ◌++◌, length, map, filter, flat_map, fold, Option, None, Some, slice_get, inl, inr, refl, sym, ap, ap₂, subst, arith, eqb-true}
use Rattle.std.specs.Prelude.{if◌then◌else◌}
use Rattle.std.specs.List.{AllByRecursion, enumerate_from}
use Rattle.std.specs.Option.{option_map_or}
use Rattle.std.proofs.lemmas.Bool.{and_parts}
use Rattle.std.proofs.lemmas.Bool.Decides.{nat_tests}
use Rattle.tez_lists.specs.Numbers.{In}
use Rattle.tez_lists.proofs.Cases.{cases}
use Rattle.tez_lists.proofs.Flat.{append-nil, in-filter-out}
use Rattle.tez_ids.specs.declared.VertexId.{VertexId}
use Rattle.tez_ids.specs.declared.EdgeId.{EdgeId}
use Rattle.tez_plan.specs.declared.parts.VertexSpec.{VertexSpec}
use Rattle.tez_plan.specs.declared.parts.EdgeSpec.{EdgeSpec}
use Rattle.tez_plan.specs.declared.parts.Head.{Head}
use Rattle.tez_plan.specs.declared.parts.Head.TheVariants.{Each, Sum, Count, Distinct, Join, Lookup, KeepIn, DropIn}
use Rattle.tez_plan.specs.Dag.{Dag, from, to, vertex, edge, source_of, edges_into, is_broadcast, is_scatter_gather}
use Rattle.tez_plan.specs.Faults.{IsValid, incoming, inputs_fit}
use Rattle.tez_meaning.proofs.JoinLemmas.{inputs_there}
use Rattle.tez_history.specs.Shape.{Edge, edges_to}
use Rattle.tez_ids.specs.declared.AttemptId.{AttemptId}
use Rattle.tez_plan.specs.declared.parts.Program.{Program}
use Rattle.tez_operators.specs.Process.{Keys, Primary}
use Rattle.tez_operators.specs.declared.inputs.Inputs.{Inputs}
use Rattle.tez_orders.specs.Orders.{OrderParts, Outs}
use Rattle.tez_meaning.specs.Jobs.{Job}
use Rattle.tez_meaning.specs.Value.{lines_of}
use Rattle.tez_shares.specs.Shares.{share_of_lines}
use Rattle.tez_assembly.specs.Order.{Records, Gathered, AreGathered, gathered_for, ahead, beside, part_for, side_records, side_for, source_part, keys_for, outs_for, order_for}
use Rattle.tez_assembly.specs.Filling.{broadcasts, part_of, parts_in, side_in}
use Rattle.tez_assembly.proofs.EdgeLemmas.{beside_plain, edge_of_number}

-- ---- by the numbers of the edges

abbrev pub copy_in : Gathered → ℕ → Records
copy_in [] n = []
copy_in (part ∷ parts) n = cond (part.0.0 == n) part.1 (copy_in parts n)

-- what there is of an edge
abbrev had : (ℕ → Records) → Edge → EdgeId × Records
had copy e = (edge e.0, copy e.0)

itself : (n : ℕ) → (n == n) ≡ true
itself n = grind (arith, nat_tests)

-- edges of later numbers
later : (part : EdgeId × Records) (parts : Gathered) (q : Edge → Bool) (k : ℕ) (xs : List EdgeSpec) → part.0.0 < k
    → map (had (copy_in (part ∷ parts))) (filter q (enumerate_from k xs)) ≡ map (had (copy_in parts)) (filter q (enumerate_from k xs))
later part parts q k [] low = refl
later part parts q k (x ∷ xs) low =
    let rest = later part parts q (k + 1) xs (omega arith) in
    let off : (part.0.0 == k) ≡ false = grind (arith, nat_tests) in
    cases (q (k, x))
    (λ t. rw (t, off) (ap (λ (ps : Gathered). (edge k, copy_in parts k) ∷ ps) rest))
    (λ t. rw t rest)

by_numbers : (q : Edge → Bool) (k : ℕ) (xs : List EdgeSpec) (gathered : Gathered) → map (λ part. part.0.0) gathered ≡ map (λ (e : Edge). e.0) (filter q (enumerate_from k xs))
    → gathered ≡ map (had (copy_in gathered)) (filter q (enumerate_from k xs))
by_numbers q k [] [] h = refl
by_numbers q k [] (part ∷ parts) h = cc
by_numbers q k (x ∷ xs) gathered h = by (q (k, x)) refl gathered h (by_numbers q (k + 1) xs)
  where
    rest : List Edge
    rest = filter q (enumerate_from (k + 1) xs)

    by : (b : Bool) → q (k, x) ≡ b → (parts : Gathered) → map (λ part. part.0.0) parts ≡ map (λ (e : Edge). e.0) (cond b ((k, x) ∷ rest) rest)
        → ((others : Gathered) → map (λ part. part.0.0) others ≡ map (λ (e : Edge). e.0) rest → others ≡ map (had (copy_in others)) rest)
        → parts ≡ map (had (copy_in parts)) (cond b ((k, x) ∷ rest) rest)
    by false t parts h ih = ih parts h
    by true t [] h ih = cc
    by true t (part ∷ parts) h ih =
        let number : part.0.0 ≡ k = cc in
        let others : map (λ p. p.0.0) parts ≡ map (λ (e : Edge). e.0) rest = cc in
        let here : copy_in (part ∷ parts) k ≡ part.1 = ap (λ n. cond (n == k) part.1 (copy_in parts k)) number ∙ ap (λ b. cond b part.1 (copy_in parts k)) (itself k) in
        ap₂ (λ (p : EdgeId × Records) (ps : Gathered). p ∷ ps)
        (λ i. (edge (number i), sym here i))
        (ih parts others ∙ sym (later part parts q (k + 1) xs (omega arith)))

pub gathered_is : (g : Dag) (v : ℕ) (gathered : Gathered) → AreGathered g v gathered → gathered ≡ gathered_for g v (copy_in gathered)
gathered_is g v gathered h = by_numbers (λ e. to g e.1 == v) 0 g.edges gathered h

-- ---- the lists that the head reads

abbrev pub AreOf : Dag → List Edge → Type 0
AreOf g es = (e : Edge) → In e es → slice_get g.edges e.0 ≡ Some e.1

pub into_are : (g : Dag) (v : ℕ) → AreOf g (edges_to g v)
into_are g v e i = edge_of_number g e (in-filter-out (λ d. to g d.1 == v) e (enumerate_from 0 g.edges) i)

abbrev over : (ℕ → Records) → List Edge → Gathered
over copy es = map (λ e. (edge e.0, copy e.0)) es

broadcast_at : (g : Dag) (e : Edge) → slice_get g.edges e.0 ≡ Some e.1 → broadcasts g e.0 ≡ is_broadcast e.1
broadcast_at g e at = ap (λ o. option_map_or is_broadcast o false) at

pub parts_are : (g : Dag) (copy : ℕ → Records) (es : List Edge) → AreOf g es → parts_in g (over copy es) ≡ map (part_for g copy) (filter (λ e. not (is_broadcast e.1)) es)
parts_are g copy [] h = refl
parts_are g copy (x ∷ xs) h =
    let at = h x (inl refl) in
    let kind = broadcast_at g x at in
    let source : source_of g x.0 ≡ from g x.1 = ap (λ o. option_map_or (from g) o 0) at in
    let rest = parts_are g copy xs (λ e i. h e (inr i)) in
    cases (is_broadcast x.1)
    (λ t. rw (kind ∙ t, t) rest)
    (λ t. rw (kind ∙ t, t) (ap₂ (λ (n : ℕ) (ps : Primary). (Some (vertex n), copy x.0) ∷ ps) source rest))

-- ---- the side

abbrev sides_of : List Edge → List Edge
sides_of es = filter (λ e. is_broadcast e.1) es

side_stays : (g : Dag) (copy : ℕ → Records) (es : List Edge) (side : Option Records) → AreOf g es → length (sides_of es) ≡ 0 → side_in g side (over copy es) ≡ side
side_stays g copy [] side h none = refl
side_stays g copy (x ∷ xs) side h none =
    let kind = broadcast_at g x (h x (inl refl)) in
    cases (is_broadcast x.1)
    (λ t. let wrong : suc (length (sides_of xs)) ≡ 0 = ap (λ b. length (cond b (x ∷ sides_of xs) (sides_of xs))) (sym t) ∙ none in absurd (omega arith))
    (λ t.
    let rest : length (sides_of xs) ≡ 0 = ap (λ b. length (cond b (x ∷ sides_of xs) (sides_of xs))) (sym t) ∙ none in
    ap (λ b. side_in g (cond b (Some (copy x.0)) side) (over copy xs)) (kind ∙ t) ∙ side_stays g copy xs side (λ e i. h e (inr i)) rest)

side_comes : (g : Dag) (copy : ℕ → Records) (es : List Edge) (side : Option Records) → AreOf g es → length (sides_of es) ≡ 1 → side_in g side (over copy es) ≡ Some (flat_map (λ (e : Edge). copy e.0) (sides_of es))
side_comes g copy [] side h one = absurd (omega arith)
side_comes g copy (x ∷ xs) side h one =
    let kind = broadcast_at g x (h x (inl refl)) in
    let all = λ (b : Bool). cond b (x ∷ sides_of xs) (sides_of xs) in
    cases (is_broadcast x.1)
    (λ t.
    let count : suc (length (sides_of xs)) ≡ 1 = ap (λ b. length (all b)) (sym t) ∙ one in
    let zero_more : length (sides_of xs) ≡ 0 = omega arith in
    ap (λ b. side_in g (cond b (Some (copy x.0)) side) (over copy xs)) (kind ∙ t)
    ∙ side_stays g copy xs (Some (copy x.0)) (λ e i. h e (inr i)) zero_more
    ∙ ap Some (sym (append-nil (copy x.0)) ∙ ap (λ (es : List Edge). copy x.0 ++ flat_map (λ (e : Edge). copy e.0) es) (sym (nothing (sides_of xs) zero_more)))
    ∙ ap (λ b. Some (flat_map (λ (e : Edge). copy e.0) (all b))) (sym t))
    (λ t.
    let rest : length (sides_of xs) ≡ 1 = ap (λ b. length (all b)) (sym t) ∙ one in
    ap (λ b. side_in g (cond b (Some (copy x.0)) side) (over copy xs)) (kind ∙ t)
    ∙ side_comes g copy xs side (λ e i. h e (inr i)) rest
    ∙ ap (λ b. Some (flat_map (λ (e : Edge). copy e.0) (all b))) (sym t))
  where
    nothing : (ys : List Edge) → length ys ≡ 0 → ys ≡ []
    nothing [] h = refl
    nothing (y ∷ ys) h = absurd (omega arith)

length_map : {X Y : Type 0} (f : X → Y) (xs : List X) → length (map f xs) ≡ length xs
length_map f [] = refl
length_map f (x ∷ xs) = ap suc (length_map f xs)

module _ (g : Dag) (v : ℕ) (copy : ℕ → Records) where
  abbrev made : Option Records
  made = side_in g None (over copy (edges_to g v))

  abbrev sides : ℕ
  sides = length (incoming is_broadcast g v)

  same_count : length (beside g v) ≡ sides
  same_count = sym (length_map (λ (e : Edge). e.1) (beside g v)) ∙ ap length (beside_plain g v)

  no_side : (sides == 0) ≡ true → made ≡ None
  no_side h = side_stays g copy (edges_to g v) None (into_are g v) (same_count ∙ eqb-true sides 0 h)

  one_side : (sides == 1) ≡ true → made ≡ Some (side_records g v copy)
  one_side h = side_comes g copy (edges_to g v) None (into_are g v) (same_count ∙ eqb-true sides 1 h)

  by_head : (head : Head) (gathers : List EdgeSpec) → inputs_fit head gathers sides ≡ true → made ≡ side_for g v head copy
  by_head Each gathers h = no_side h
  by_head (Sum value) gathers h = no_side h
  by_head Count gathers h = no_side h
  by_head Distinct gathers h = no_side h
  by_head (Join name) gathers h = no_side (and_parts (sides == 0) (length gathers == 2) (and_parts _ _ h).0).0
  by_head (Lookup key side_key) gathers h = one_side h
  by_head (KeepIn key side_key) gathers h = one_side h
  by_head (DropIn key side_key) gathers h = one_side h

pub side_is : (g : Dag) (v : ℕ) (s : VertexSpec) (copy : ℕ → Records) → IsValid g → slice_get g.vertices v ≡ Some s → side_in g None (gathered_for g v copy) ≡ side_for g v s.head copy
side_is g v s copy valid here = by_head g v copy s.head (incoming is_scatter_gather g v) (inputs_there g v s valid here)

-- ---- the loop

inside : {X : Type 0} (xs : List X) (n : ℕ) (x : X) → slice_get xs n ≡ Some x → n < length xs
inside [] n x h = cc
inside (y ∷ ys) zero x h = omega arith
inside (y ∷ ys) (suc n) x h = let rest = inside ys n x h in omega arith

each_inside : (g : Dag) (copy : ℕ → Records) (es : List Edge) → AreOf g es → AllByRecursion (λ part. part.0.0 < length g.edges) (over copy es)
each_inside g copy [] h = tt
each_inside g copy (x ∷ xs) h = (inside g.edges x.0 x.1 (h x (inl refl)), each_inside g copy xs (λ e i. h e (inr i)))

pub all_inside : (g : Dag) (v : ℕ) (gathered : Gathered) → AreGathered g v gathered → AllByRecursion (λ part. part.0.0 < length g.edges) gathered
all_inside g v gathered h = subst (AllByRecursion (λ part. part.0.0 < length g.edges)) (sym (gathered_is g v gathered h)) (each_inside g (copy_in gathered) (edges_to g v) (into_are g v))

pub one_part : (g : Dag) (part : EdgeId × Records) (parts : Gathered) → parts_in g (part ∷ parts) ≡ parts_in g (part ∷ []) ++ parts_in g parts
one_part g part parts = cases (broadcasts g part.0.0) (λ t. rw t refl) (λ t. rw t refl)

enumerated : (k : ℕ) (xs : List EdgeSpec) → length (enumerate_from k xs) ≡ length xs
enumerated k [] = refl
enumerated k (x ∷ xs) = ap suc (enumerated (k + 1) xs)

fewer : {X : Type 0} (q : X → Bool) (xs : List X) → length (filter q xs) ≤ length xs
fewer q [] = omega arith
fewer q (x ∷ xs) = let rest = fewer q xs in cases (q x) (λ t. rw t (omega arith)) (λ t. rw t (omega arith))

pub few_gathered : (g : Dag) (v : ℕ) (gathered : Gathered) → AreGathered g v gathered → length gathered ≤ length g.edges
few_gathered g v gathered h =
    let same : length gathered ≡ length (edges_to g v) = sym (length_map (λ (part : EdgeId × Records). part.0.0) gathered) ∙ ap length h ∙ length_map (λ (e : Edge). e.0) (edges_to g v) in
    let most = fewer (λ (e : Edge). to g e.1 == v) (enumerate_from 0 g.edges) in
    let all = enumerated 0 g.edges in
    omega arith

-- ---- the order

pub order_made : (job : Job) (tasks : ℕ) (a : AttemptId) (place : ℕ) (s : VertexSpec) (copy : ℕ → Records) (gathered : Gathered) → IsValid job.plan → slice_get job.plan.vertices a.task.vertex.0 ≡ Some s → gathered ≡ gathered_for job.plan a.task.vertex.0 copy
    → (program : Program) (keys : Keys) (source : Primary) (inputs : Inputs) (outs : Outs) → program ≡ record { head = s.head; steps = s.steps } → keys ≡ keys_for job.plan a.task.vertex.0 s.head
    → source ≡ source_part (λ name. share_of_lines (lines_of job name) tasks a.task.index) s → inputs.primary ≡ source ++ parts_in job.plan gathered → inputs.side ≡ side_in job.plan None gathered → outs ≡ outs_for job.plan a.task.vertex.0
    → (let made : OrderParts = record { attempt = a; place = place; program = program; keys = keys; inputs = inputs; outs = outs } in made ≡ order_for job tasks a place copy s)
order_made job tasks a place s copy gathered valid here gather program keys source inputs outs program_is keys_is source_is primary_is sides_is outs_is =
    let g = job.plan in
    let v = a.task.vertex.0 in
    let primary = primary_is ∙ ap₂ (λ (xs ys : Primary). xs ++ ys) source_is (ap (parts_in g) gather ∙ parts_are g copy (edges_to g v) (into_are g v)) in
    let side = sides_is ∙ ap (side_in g None) gather ∙ side_is g v s copy valid here in
    λ i. record { attempt = a; place = place; program = program_is i; keys = keys_is i; inputs = record { primary = primary i; side = side i }; outs = outs_is i }
