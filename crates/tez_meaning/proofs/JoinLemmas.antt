-- What a valid plan says of the edges into a vertex.
--     ahead_of, left_of, right_of      the edges past the side of a vertex, and those to the left and right of its head
--     join_edges                       a join has one edge on each side, both by key, and no source file
--     other_source                     the two come from different vertices
use Rattle.std.proofs.Common.{◌≡◌, ◌∙◌, ℕ, ◌+◌, ◌<◌, ◌≤◌, ◌==◌, ◌&&◌, Bool, true, false, not, List, [], ◌∷◌, length, filter, Option, Some, None, slice_get, refl, sym, ap, ap₂, subst, arith, bytes_eq, eqb-true, eq-eqb, ltb, ltb-false}
use Rattle.std.specs.List.{AllByRecursion, list_any}
use Rattle.std.specs.Option.{option_map_or}
use Rattle.std.proofs.lemmas.Bool.{and_parts, and_from, not-true, not-false, false_from_ne_true}
use Rattle.tez_lists.proofs.Cases.{both}
use Rattle.tez_record.proofs.BagLemmas.{same_record, same_itself}
use Rattle.tez_plan.specs.declared.parts.VertexSpec.{VertexSpec}
use Rattle.tez_plan.specs.declared.parts.EdgeSpec.{EdgeSpec}
use Rattle.tez_plan.specs.declared.parts.Head.TheVariants.{Join}
use Rattle.tez_plan.specs.declared.parts.Movement.{Movement}
use Rattle.tez_plan.specs.declared.parts.Movement.TheVariants.{OneToOne, Broadcast, ScatterGather}
use Rattle.tez_plan.specs.Dag.{Dag, place_of, from, to, edges_into, is_broadcast, is_scatter_gather, is_one_to_one, goes_by_key, goes_one_to_one, goes_to_all}
use Rattle.tez_plan.specs.Faults.{IsValid, incoming, primaries, inputs_fit}
use Rattle.tez_plan.specs.Graph.{AreInside}
use Rattle.tez_plan.proofs.CheckLemmas.{valid_parts}
use Rattle.tez_plan.proofs.OrderLemmas.{all_map, all_filter}
use Rattle.tez_plan.proofs.RankLemmas.{inside_edges}
use Rattle.tez_meaning.specs.Value.{is_left}
use Rattle.tez_meaning.proofs.EdgeLists.{none_of_kind, Pairwise, pairwise_filter, at_most_one, all_apart, length_split, filter_agree_all, some_of_kind, any_weaker, at_position, some_at}

abbrev pub ahead_of : Dag → ℕ → List EdgeSpec
ahead_of p v = filter (λ e. not (is_broadcast e)) (edges_into p v)

abbrev pub left_of : Dag → ℕ → VertexSpec → List EdgeSpec
left_of p v s = filter (is_left s.head) (ahead_of p v)

abbrev pub right_of : Dag → ℕ → VertexSpec → List EdgeSpec
right_of p v s = filter (λ e. not (is_left s.head e)) (ahead_of p v)

-- an edge that is neither a broadcast nor one to one is by key
the_third : (m : Movement) → goes_one_to_one m ≡ false → goes_to_all m ≡ false → goes_by_key m ≡ true
the_third OneToOne a b = cc
the_third Broadcast a b = cc
the_third (ScatterGather keys) a b = refl

-- what a check says at a vertex
pub at_spec : (p : Dag) (v : ℕ) (s : VertexSpec) (test : VertexSpec → Bool) → slice_get p.vertices v ≡ Some s → (option_map_or test (slice_get p.vertices v) false ≡ true → ⊥) → test s ≡ false
at_spec p v s test e h = false_from_ne_true (test s) (λ t. h (ap (λ o. option_map_or test o false) e ∙ t))

pub source_none : (source : Option (List ℕ)) → option_map_or {U = ℕ} (λ _. 1) source 0 ≡ 0 → source ≡ None
source_none None e = refl
source_none (Some name) e = absurd (omega arith)

-- each edge ahead is by key, where none is one to one
pub ahead_by_key : (p : Dag) (v : ℕ) → length (incoming is_one_to_one p v) ≡ 0 → AllByRecursion (λ e. is_scatter_gather e ≡ true) (ahead_of p v)
ahead_by_key p v none = all_filter (λ e. is_one_to_one e ≡ false) (λ e. is_scatter_gather e ≡ true) (λ e. not (is_broadcast e)) (λ e k h. the_third e.movement h (not-true _ k)) (edges_into p v) (none_of_kind is_one_to_one (edges_into p v) none)

-- no two edges have the same ends
same_ends : Dag → EdgeSpec → EdgeSpec → Bool
same_ends p d t = (from p d == from p t) && (to p d == to p t)

apart : (p : Dag) → IsValid p → Pairwise (λ t d. same_ends p d t ≡ false) p.edges
unfolding same_ends
apart p valid = all_apart (same_ends p) p.edges (valid_parts p valid).own_edges

pub few_edges : (p : Dag) → IsValid p → length p.edges ≤ 256
few_edges p valid = ltb-false 256 (length p.edges) (false_from_ne_true (ltb 256 (length p.edges)) (λ t. (valid_parts p valid).few_parts 256 t))

pub few_primaries : (p : Dag) (v : ℕ) (s : VertexSpec) → IsValid p → slice_get p.vertices v ≡ Some s → primaries p v s ≤ 1
few_primaries p v s valid e = ltb-false 1 (primaries p v s) (at_spec p v s (λ t. ltb 1 (primaries p v t)) e ((valid_parts p valid).one_primary v))

pub inputs_there : (p : Dag) (v : ℕ) (s : VertexSpec) → IsValid p → slice_get p.vertices v ≡ Some s → inputs_fit s.head (incoming is_scatter_gather p v) (length (incoming is_broadcast p v)) ≡ true
inputs_there p v s valid e = not-false _ (at_spec p v s (λ t. not (inputs_fit t.head (incoming is_scatter_gather p v) (length (incoming is_broadcast p v)))) e ((valid_parts p valid).fit_inputs v))

units : {X : Type 0} (xs : List X) → AllByRecursion (λ x. Unit {0}) xs
units [] = tt
units (x ∷ xs) = (tt, units xs)

-- each edge into v leads there
pub into : (p : Dag) (v : ℕ) → AllByRecursion (λ e. (to p e == v) ≡ true) (edges_into p v)
into p v = all_filter (λ e. Unit {0}) (λ e. (to p e == v) ≡ true) (λ e. to p e == v) (λ e k h. k) p.edges (units p.edges)

-- each edge into v comes from a vertex
pub from_inside : (p : Dag) (v : ℕ) → IsValid p → AllByRecursion (λ e. from p e < length p.vertices) (edges_into p v)
from_inside p v valid = all_filter (AreInside p) (λ e. from p e < length p.vertices) (λ e. to p e == v) (λ e k h. h.0) p.edges (inside_edges p valid)

-- edges from one vertex have the name of one source
same_source : (p : Dag) (d t : EdgeSpec) → from p d < length p.vertices → from p d ≡ from p t → d.source ≡ t.source
same_source p d t inside e =
    let w = some_at p.vertices (from p d) inside in
    let here = at_position (λ u. bytes_eq d.source u.name) p.vertices w.0 w.1 in
    let there = at_position (λ u. bytes_eq t.source u.name) p.vertices w.0 (ap (slice_get p.vertices) (sym e) ∙ w.1) in
    same_record d.source w.0.name here ∙ sym (same_record t.source w.0.name there)

module _ (p : Dag) (v : ℕ) (s : VertexSpec) (valid : IsValid p) (here : slice_get p.vertices v ≡ Some s) (name : List ℕ) (is_join : s.head ≡ Join name) where
  named : (t : EdgeSpec) → is_left s.head t ≡ true → t.source ≡ name
  named t a = same_record t.source name (ap (λ h. is_left h t) (sym is_join) ∙ a)

  -- two edges into v from one source are one edge
  few_left : length (left_of p v s) ≤ 1
  unfolding same_ends
  few_left = at_most_one (left_of p v s)
      (pairwise_filter (λ e. (to p e == v) ≡ true) (λ t d. same_ends p d t ≡ false) (λ t d. ⊥) (is_left s.head)
      (λ t d a b x y r. both (and_from _ _ (eq-eqb (from p d) (from p t) (ap (place_of p) (named d b ∙ sym (named t a)))) (eq-eqb (to p d) (to p t) (eqb-true (to p d) v y ∙ sym (eqb-true (to p t) v x)))) r) (ahead_of p v)
      (all_filter (λ e. (to p e == v) ≡ true) (λ e. (to p e == v) ≡ true) (λ e. not (is_broadcast e)) (λ e k h. h) (edges_into p v) (into p v))
      (pairwise_filter (λ e. Unit {0}) (λ t d. same_ends p d t ≡ false) (λ t d. same_ends p d t ≡ false) (λ e. not (is_broadcast e)) (λ x y a b u w r. r) (edges_into p v) (units (edges_into p v))
      (pairwise_filter (λ e. Unit {0}) (λ t d. same_ends p d t ≡ false) (λ t d. same_ends p d t ≡ false) (λ e. to p e == v) (λ x y a b u w r. r) p.edges (units p.edges) (apart p valid))))

-- a join has one edge on each side, both by key, and no source file
pub record JoinEdges (p : Dag) (v : ℕ) (s : VertexSpec) : Type 0 where
  pub no_source : s.source ≡ None
  pub by_key : AllByRecursion (λ e. is_scatter_gather e ≡ true) (ahead_of p v)
  pub one_left : length (left_of p v s) ≡ 1
  pub one_right : length (right_of p v s) ≡ 1

the_other : (m : Movement) → goes_one_to_one m ≡ false → not (goes_to_all m) ≡ goes_by_key m
the_other OneToOne k = cc
the_other Broadcast k = refl
the_other (ScatterGather keys) k = refl

pub join_edges : (p : Dag) (v : ℕ) (s : VertexSpec) → IsValid p → slice_get p.vertices v ≡ Some s → (name : List ℕ) → s.head ≡ Join name → JoinEdges p v s
join_edges p v s valid here name is_join =
    let gathers = incoming is_scatter_gather p v in
    let few : primaries p v s ≤ 1 = few_primaries p v s valid here in
    let h : inputs_fit (Join name) gathers (length (incoming is_broadcast p v)) ≡ true = ap (λ x. inputs_fit x gathers (length (incoming is_broadcast p v))) (sym is_join) ∙ inputs_there p v s valid here in
    let parts : ((length (incoming is_broadcast p v) == 0) && (length gathers == 2) ≡ true) × (list_any (λ e. bytes_eq name e.source) gathers ≡ true) = and_parts ((length (incoming is_broadcast p v) == 0) && (length gathers == 2)) (list_any (λ e. bytes_eq name e.source) gathers) h in
    let two : length gathers ≡ 2 = eqb-true (length gathers) 2 (and_parts (length (incoming is_broadcast p v) == 0) (length gathers == 2) parts.0).1 in
    let no_one : length (incoming is_one_to_one p v) ≡ 0 = omega arith in
    let no_source : option_map_or {U = ℕ} (λ _. 1) s.source 0 ≡ 0 = omega arith in
    let same_edges : ahead_of p v ≡ gathers = filter_agree_all (λ e. not (is_broadcast e)) is_scatter_gather (edges_into p v)
    (all_map (λ e. is_one_to_one e ≡ false) (λ e. not (is_broadcast e) ≡ is_scatter_gather e) (λ e k. the_other e.movement k) (edges_into p v) (none_of_kind is_one_to_one (edges_into p v) no_one)) in
    let any : list_any (λ e. bytes_eq e.source name) gathers ≡ true = any_weaker (λ e. bytes_eq name e.source) (λ e. bytes_eq e.source name) (λ e t. ap (λ n. bytes_eq n name) (sym (same_record name e.source t)) ∙ same_itself name) gathers parts.1 in
    let some : 0 < length (left_of p v s) = subst (λ (n : ℕ). 0 < n) (ap₂ (λ (q : EdgeSpec → Bool) (xs : List EdgeSpec). length (filter q xs)) (λ i e. is_left (sym is_join i) e) (sym same_edges)) (some_of_kind (λ e. bytes_eq e.source name) gathers any) in
    let most : length (left_of p v s) ≤ 1 = few_left p v s valid here name is_join in
    let all : length (left_of p v s) + length (right_of p v s) ≡ length (ahead_of p v) = length_split (is_left s.head) (ahead_of p v) in
    let both_sides : length (ahead_of p v) ≡ 2 = ap length same_edges ∙ two in
    record {
      no_source = source_none s.source no_source;
      by_key = ahead_by_key p v no_one;
      one_left = omega arith;
      one_right = omega arith;
    }

-- an edge on the right comes from another vertex than one on the left
pub other_source : (p : Dag) (v : ℕ) (s : VertexSpec) → IsValid p → (name : List ℕ) → s.head ≡ Join name → (l : EdgeSpec) → is_left s.head l ≡ true → AllByRecursion (λ e. (from p e == from p l) ≡ false) (right_of p v s)
other_source p v s valid name is_join l left =
    all_filter (λ e. from p e < length p.vertices) (λ e. (from p e == from p l) ≡ false) (λ e. not (is_left s.head e))
    (λ e k inside. false_from_ne_true (from p e == from p l) (λ t. both
    (ap (λ h. is_left h e) is_join ∙ ap (λ n. bytes_eq n name) (same_source p e l inside (eqb-true (from p e) (from p l) t) ∙ same_record l.source name (ap (λ h. is_left h l) (sym is_join) ∙ left)) ∙ same_itself name)
    (not-true _ k))) (ahead_of p v)
    (all_filter (λ e. from p e < length p.vertices) (λ e. from p e < length p.vertices) (λ e. not (is_broadcast e)) (λ e k h. h) (edges_into p v) (from_inside p v valid))
