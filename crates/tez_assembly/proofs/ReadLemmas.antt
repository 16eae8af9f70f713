-- What the program of an order reads is what its task reads.
--     reads_are       for a valid plan
use Rattle.std.proofs.Common.{◌≡◌, ◌∙◌, ℕ, ◌+◌, ◌==◌, Bool, true, false, cond, not, List, [], ◌∷◌, ◌++◌, length, map, filter, flat_map, Option, None, Some, slice_get, inl, inr, refl, sym, ap, ap₂, subst, arith, unwrap_or, eqb-true, eq-eqb}
use Rattle.std.specs.List.{AllByRecursion}
use Rattle.std.specs.Option.{option_map_or}
use Rattle.std.proofs.lemmas.Bool.{and_parts}
use Rattle.tez_lists.specs.Numbers.{In}
use Rattle.tez_lists.proofs.Cases.{cases, both}
use Rattle.tez_lists.proofs.Flat.{append-nil, filter-append}
use Rattle.tez_lists.proofs.Members.{in_filter}
use Rattle.tez_ids.specs.declared.VertexId.{VertexId}
use Rattle.tez_plan.specs.declared.parts.VertexSpec.{VertexSpec}
use Rattle.tez_plan.specs.declared.parts.EdgeSpec.{EdgeSpec}
use Rattle.tez_plan.specs.declared.parts.Head.{Head}
use Rattle.tez_plan.specs.declared.parts.Head.TheVariants.{Each, Sum, Count, Distinct, Join, Lookup, KeepIn, DropIn}
use Rattle.tez_plan.specs.Dag.{Dag, from, vertex, edges_into, is_broadcast, is_scatter_gather, keys_of}
use Rattle.tez_plan.specs.Faults.{IsValid, incoming, inputs_fit}
use Rattle.tez_operators.specs.Process.{Keys, Primary, is_vertex, columns_at, records_of, reads}
use Rattle.tez_values.specs.Heads.{HeadInputs}
use Rattle.tez_meaning.specs.Value.{is_left, columns_of, inputs}
use Rattle.tez_meaning.proofs.EdgeLists.{one_of, filter_agree_all}
use Rattle.tez_meaning.proofs.JoinLemmas.{ahead_of, join_edges, other_source, inputs_there}
use Rattle.tez_history.specs.Shape.{Edge, edges_to}
use Rattle.tez_assembly.specs.Order.{Records, ahead, beside, key_at, keys_for, source_part, primary_for, side_records, side_for}
use Rattle.tez_assembly.proofs.EdgeLemmas.{ahead_plain, beside_plain, keys_plain, parts_plain, records_plain, part_at, Agrees, agrees_filter}

-- ---- lists

pub all_in : {X : Type 0} (P : X → Type 0) (xs : List X) → ((x : X) → In x xs → P x) → AllByRecursion P xs
all_in P [] h = tt
all_in P (x ∷ xs) h = (h x (inl refl), all_in P xs (λ y i. h y (inr i)))

pub all_at : {X : Type 0} (P : X → Type 0) (x : X) (xs : List X) → AllByRecursion P xs → In x xs → P x
all_at P x [] all i = absurd i
all_at P x (y ∷ xs) all (inl e) = subst P (sym e) all.0
all_at P x (y ∷ xs) all (inr i) = all_at P x xs all.1 i

pub filter_every : {X : Type 0} (xs : List X) → filter (λ x. true) xs ≡ xs
filter_every [] = refl
filter_every {X} (x ∷ xs) = ap (λ (rest : List X). x ∷ rest) (filter_every xs)

pub filter_none : {X : Type 0} (xs : List X) → filter (λ x. false) xs ≡ []
filter_none [] = refl
filter_none (x ∷ xs) = filter_none xs

nothing : {X : Type 0} (xs : List X) → length xs ≡ 0 → xs ≡ []
nothing [] h = refl
nothing (x ∷ xs) h = absurd (omega arith)

-- ---- the lists that a head reads

first_columns : (g : Dag) (xs : List EdgeSpec) → columns_at (map (key_at g) xs) 0 ≡ columns_of xs
first_columns g [] = refl
first_columns g (x ∷ xs) = refl

-- those from vertices that pass
from_parts : (g : Dag) (f : EdgeSpec → Records) (q : Option VertexId → Bool) (xs : List EdgeSpec) → records_of q (map (part_at g f) xs) ≡ flat_map f (filter (λ e. q (Some (vertex (from g e)))) xs)
from_parts g f q [] = refl
from_parts g f q (x ∷ xs) = cases (q (Some (vertex (from g x))))
    (λ t. rw t (ap (λ (rest : Records). f x ++ rest) (from_parts g f q xs)))
    (λ t. rw t (from_parts g f q xs))

abbrev all_parts : Dag → (EdgeSpec → Records) → (List ℕ → Records) → VertexSpec → List EdgeSpec → Primary
all_parts g f share s xs = source_part share s ++ map (part_at g f) xs

every_part : (g : Dag) (f : EdgeSpec → Records) (share : List ℕ → Records) (source : Option (List ℕ)) (xs : List EdgeSpec)
    → records_of (λ u. true) (option_map_or (λ name. (None, share name) ∷ []) source [] ++ map (part_at g f) xs) ≡ option_map_or share source [] ++ flat_map f (filter (λ e. true) xs)
every_part g f share None xs = from_parts g f (λ u. true) xs
every_part g f share (Some name) xs = ap (λ (rest : Records). share name ++ rest) (from_parts g f (λ u. true) xs)

no_part : (g : Dag) (f : EdgeSpec → Records) (share : List ℕ → Records) (source : Option (List ℕ)) (xs : List EdgeSpec)
    → records_of (λ u. false) (option_map_or (λ name. (None, share name) ∷ []) source [] ++ map (part_at g f) xs) ≡ flat_map f (filter (λ e. false) xs)
no_part g f share None xs = from_parts g f (λ u. false) xs
no_part g f share (Some name) xs = from_parts g f (λ u. false) xs

-- what a head that is no join reads, where all its edges are on the left
plain_reads : (g : Dag) (f : EdgeSpec → Records) (share : List ℕ → Records) (s : VertexSpec) (xs : List EdgeSpec) (side : Records)
    → (let made : HeadInputs = record {
      columns = columns_at (map (key_at g) (filter (λ e. true) xs ++ filter (λ e. false) xs)) 0;
      primary = records_of (λ u. true) (all_parts g f share s xs);
      partner_columns = [];
      partner = records_of (λ u. false) (all_parts g f share s xs);
      side = side;
    } in
    let wanted : HeadInputs = record {
      columns = columns_of (filter (λ e. true) xs);
      primary = option_map_or share s.source [] ++ flat_map f (filter (λ e. true) xs);
      partner_columns = columns_of (filter (λ e. false) xs);
      partner = flat_map f (filter (λ e. false) xs);
      side = side;
    } in
    made ≡ wanted)
plain_reads g f share s xs side =
    let none = filter_none xs in
    let columns : columns_at (map (key_at g) (filter (λ e. true) xs ++ filter (λ e. false) xs)) 0 ≡ columns_of (filter (λ e. true) xs) =
    ap (λ ys. columns_at (map (key_at g) (filter (λ e. true) xs ++ ys)) 0) none
    ∙ ap (λ ys. columns_at (map (key_at g) ys) 0) (append-nil (filter (λ e. true) xs))
    ∙ first_columns g (filter (λ e. true) xs) in
    let primary = every_part g f share s.source xs in
    let partner_columns : [] ≡ columns_of (filter (λ e. false) xs) = sym (ap columns_of none) in
    let partner = no_part g f share s.source xs in
    λ i. record {
      columns = columns i;
      primary = primary i;
      partner_columns = partner_columns i;
      partner = partner i;
      side = side;
    }

-- ---- joins

-- one edge on each side, and from different vertices
pub record TwoSides (g : Dag) (head : Head) (xs : List EdgeSpec) : Type 0 where
  pub one_left : length (filter (is_left head) xs) ≡ 1
  pub one_right : length (filter (λ e. not (is_left head e)) xs) ≡ 1
  pub apart : (l : EdgeSpec) → is_left head l ≡ true → AllByRecursion (λ e. (from g e == from g l) ≡ false) (filter (λ e. not (is_left head e)) xs)

pub two_sides : (g : Dag) (v : ℕ) (s : VertexSpec) → IsValid g → slice_get g.vertices v ≡ Some s → (name : List ℕ) → s.head ≡ Join name → TwoSides g s.head (ahead_of g v)
two_sides g v s valid here name is_join =
    let e = join_edges g v s valid here name is_join in
    record { one_left = e.one_left; one_right = e.one_right; apart = other_source g v s valid name is_join }

pub kept_passes : {X : Type 0} (q : X → Bool) (x : X) (xs : List X) → In x (filter q xs) → q x ≡ true
kept_passes q x [] h = absurd h
kept_passes q x (y ∷ ys) h = by (q y) refl h (kept_passes q x ys) where
  by : (b : Bool) → q y ≡ b → In x (cond b (y ∷ filter q ys) (filter q ys)) → (In x (filter q ys) → q x ≡ true) → q x ≡ true
  by true t (inl e) ih = ap q e ∙ t
  by true t (inr i) ih = ih i
  by false t i ih = ih i

module _ (g : Dag) (head : Head) (xs : List EdgeSpec) (sides : TwoSides g head xs) where
  pub the_left : (l : EdgeSpec) × (filter (is_left head) xs ≡ l ∷ [])
  the_left = one_of (filter (is_left head) xs) sides.one_left

  pub the_right : (r : EdgeSpec) × (filter (λ e. not (is_left head e)) xs ≡ r ∷ [])
  the_right = one_of (filter (λ e. not (is_left head e)) xs) sides.one_right

  pub left_passes : is_left head the_left.0 ≡ true
  left_passes = kept_passes (is_left head) the_left.0 xs (subst (λ ys. In the_left.0 ys) (sym the_left.1) (inl refl))

  -- an edge is on the left exactly where it comes from the left vertex
  by_vertex : (e : EdgeSpec) → In e xs → (from g e == from g the_left.0) ≡ is_left head e
  by_vertex e i = cases (is_left head e)
      (λ t. at_left (subst (λ ys. In e ys) the_left.1 (in_filter (is_left head) e xs i t)) ∙ sym t)
      (λ t. all_at (λ d. (from g d == from g the_left.0) ≡ false) e (filter (λ d. not (is_left head d)) xs) (sides.apart the_left.0 left_passes) (in_filter (λ d. not (is_left head d)) e xs i (ap not t)) ∙ sym t)
    where
      at_left : In e (the_left.0 ∷ []) → (from g e == from g the_left.0) ≡ true
      at_left (inl same) = eq-eqb (from g e) (from g the_left.0) (ap (from g) same)
      at_left (inr none) = absurd none

  pub right_apart : (from g the_right.0 == from g the_left.0) ≡ false
  right_apart = all_at (λ d. (from g d == from g the_left.0) ≡ false) the_right.0 (filter (λ d. not (is_left head d)) xs) (sides.apart the_left.0 left_passes) (subst (λ ys. In the_right.0 ys) (sym the_right.1) (inl refl))

  left_vertex : filter (λ e. from g e == from g the_left.0) xs ≡ filter (is_left head) xs
  left_vertex = filter_agree_all (λ e. from g e == from g the_left.0) (is_left head) xs (all_in (λ e. (from g e == from g the_left.0) ≡ is_left head e) xs by_vertex)

  right_vertex : filter (λ e. not (from g e == from g the_left.0)) xs ≡ filter (λ e. not (is_left head e)) xs
  right_vertex = filter_agree_all (λ e. not (from g e == from g the_left.0)) (λ e. not (is_left head e)) xs (all_in (λ e. not (from g e == from g the_left.0) ≡ not (is_left head e)) xs (λ e i. ap not (by_vertex e i)))

  pub keys_two : map (key_at g) (filter (is_left head) xs ++ filter (λ e. not (is_left head e)) xs) ≡ key_at g the_left.0 ∷ key_at g the_right.0 ∷ []
  keys_two = ap₂ (λ (ys zs : List EdgeSpec). map (key_at g) (ys ++ zs)) the_left.1 the_right.1

  pub joined : (f : EdgeSpec → Records) (side : Records)
      → (let keys : Keys = key_at g the_left.0 ∷ key_at g the_right.0 ∷ [] in
      let made : HeadInputs = record {
        columns = columns_at keys 0;
        primary = records_of (is_vertex (vertex (from g the_left.0))) (map (part_at g f) xs);
        partner_columns = columns_at keys 1;
        partner = records_of (λ u. not (is_vertex (vertex (from g the_left.0)) u)) (map (part_at g f) xs);
        side = side;
      } in
      let wanted : HeadInputs = record {
        columns = columns_of (filter (is_left head) xs);
        primary = flat_map f (filter (is_left head) xs);
        partner_columns = columns_of (filter (λ e. not (is_left head e)) xs);
        partner = flat_map f (filter (λ e. not (is_left head e)) xs);
        side = side;
      } in
      made ≡ wanted)
  joined f side =
      let columns : keys_of the_left.0 ≡ columns_of (filter (is_left head) xs) = sym (ap columns_of the_left.1) in
      let primary : records_of (is_vertex (vertex (from g the_left.0))) (map (part_at g f) xs) ≡ flat_map f (filter (is_left head) xs) =
      from_parts g f (is_vertex (vertex (from g the_left.0))) xs ∙ ap (flat_map f) left_vertex in
      let partner_columns : keys_of the_right.0 ≡ columns_of (filter (λ e. not (is_left head e)) xs) = sym (ap columns_of the_right.1) in
      let partner : records_of (λ u. not (is_vertex (vertex (from g the_left.0)) u)) (map (part_at g f) xs) ≡ flat_map f (filter (λ e. not (is_left head e)) xs) =
      from_parts g f (λ u. not (is_vertex (vertex (from g the_left.0)) u)) xs ∙ ap (flat_map f) right_vertex in
      λ i. record {
        columns = columns i;
        primary = primary i;
        partner_columns = partner_columns i;
        partner = partner i;
        side = side;
      }

-- ---- all heads

abbrev side_or : Head → Records → Option Records
side_or Each rs = None
side_or (Sum value) rs = None
side_or Count rs = None
side_or Distinct rs = None
side_or (Join left) rs = None
side_or (Lookup key side_key) rs = Some rs
side_or (KeepIn key side_key) rs = Some rs
side_or (DropIn key side_key) rs = Some rs

side_is : (g : Dag) (v : ℕ) (head : Head) (copy : ℕ → Records) → side_for g v head copy ≡ side_or head (side_records g v copy)
side_is g v Each copy = refl
side_is g v (Sum value) copy = refl
side_is g v Count copy = refl
side_is g v Distinct copy = refl
side_is g v (Join left) copy = refl
side_is g v (Lookup key side_key) copy = refl
side_is g v (KeepIn key side_key) copy = refl
side_is g v (DropIn key side_key) copy = refl

module _ (g : Dag) (v : ℕ) (s : VertexSpec) (share : List ℕ → Records) (f : EdgeSpec → Records) where
  abbrev xs : List EdgeSpec
  xs = ahead_of g v

  abbrev broadcast : List EdgeSpec
  broadcast = filter is_broadcast (edges_into g v)

  -- what a vertex with this head and this side reads, as `inputs` has it
  abbrev read_with : Head → Records → HeadInputs
  read_with head side = record {
    columns = columns_of (filter (is_left head) xs);
    primary = option_map_or share s.source [] ++ flat_map f (filter (is_left head) xs);
    partner_columns = columns_of (filter (λ e. not (is_left head e)) xs);
    partner = flat_map f (filter (λ e. not (is_left head e)) xs);
    side = side;
  }

  abbrev keys_by : Head → Keys
  keys_by head = map (key_at g) (filter (is_left head) xs ++ filter (λ e. not (is_left head e)) xs)

  no_side : (length broadcast == 0) ≡ true → [] ≡ flat_map f broadcast
  no_side h = sym (ap (flat_map f) (nothing broadcast (eqb-true (length broadcast) 0 h)))

  join_reads : (head : Head) (name : List ℕ) → head ≡ Join name → s.source ≡ None → TwoSides g head xs → reads (Join name) (keys_by head) (all_parts g f share s xs) None ≡ read_with head []
  join_reads head name is none sides =
      ap₂ (λ (keys : Keys) (source : Option (List ℕ)). reads (Join name) keys (option_map_or (λ n. (None, share n) ∷ []) source [] ++ map (part_at g f) xs) None) (keys_two g head xs sides) none
      ∙ joined g head xs sides f []
      ∙ ap (λ (source : Option (List ℕ)). record {
        columns = columns_of (filter (is_left head) xs);
        primary = option_map_or share source [] ++ flat_map f (filter (is_left head) xs);
        partner_columns = columns_of (filter (λ e. not (is_left head e)) xs);
        partner = flat_map f (filter (λ e. not (is_left head e)) xs);
        side = [];
      }) (sym none)

  by_head : (head : Head) (gathers : List EdgeSpec) → inputs_fit head gathers (length broadcast) ≡ true → ((name : List ℕ) → head ≡ Join name → (s.source ≡ None) × TwoSides g head xs)
      → reads head (keys_by head) (all_parts g f share s xs) (side_or head (flat_map f broadcast)) ≡ read_with head (flat_map f broadcast)
  by_head Each gathers h join = plain_reads g f share s xs [] ∙ ap (read_with Each) (no_side h)
  by_head (Sum value) gathers h join = plain_reads g f share s xs [] ∙ ap (read_with (Sum value)) (no_side h)
  by_head Count gathers h join = plain_reads g f share s xs [] ∙ ap (read_with Count) (no_side h)
  by_head Distinct gathers h join = plain_reads g f share s xs [] ∙ ap (read_with Distinct) (no_side h)
  by_head (Join name) gathers h join =
      let both_sides = join name refl in
      join_reads (Join name) name refl both_sides.0 both_sides.1
      ∙ ap (read_with (Join name)) (no_side (and_parts (length broadcast == 0) (length gathers == 2) (and_parts _ _ h).0).0)
  by_head (Lookup key side_key) gathers h join = plain_reads g f share s xs (flat_map f broadcast)
  by_head (KeepIn key side_key) gathers h join = plain_reads g f share s xs (flat_map f broadcast)
  by_head (DropIn key side_key) gathers h join = plain_reads g f share s xs (flat_map f broadcast)

-- ---- an order

pub primary_plain : (g : Dag) (v : ℕ) (s : VertexSpec) (share : List ℕ → Records) (f : EdgeSpec → Records) (copy : ℕ → Records) → Agrees f copy (edges_to g v) → primary_for g v s share copy ≡ source_part share s ++ map (part_at g f) (ahead_of g v)
primary_plain g v s share f copy agrees =
    ap (λ (ps : Primary). source_part share s ++ ps) (parts_plain g f copy (ahead g v) (agrees_filter f copy (λ e. not (is_broadcast e.1)) (edges_to g v) agrees) ∙ ap (map (part_at g f)) (ahead_plain g v))

pub reads_are : (g : Dag) (v : ℕ) (s : VertexSpec) (share : List ℕ → Records) (f : EdgeSpec → Records) (copy : ℕ → Records) → IsValid g → slice_get g.vertices v ≡ Some s → Agrees f copy (edges_to g v)
    → reads s.head (keys_for g v s.head) (primary_for g v s share copy) (side_for g v s.head copy) ≡ inputs g v s share f
reads_are g v s share f copy valid here agrees =
    let keys = keys_plain g v s.head in
    let primary = primary_plain g v s share f copy agrees in
    let side_records_are : side_records g v copy ≡ flat_map f (filter is_broadcast (edges_into g v)) =
    records_plain f copy (beside g v) (agrees_filter f copy (λ e. is_broadcast e.1) (edges_to g v) agrees) ∙ ap (flat_map f) (beside_plain g v) in
    let side = side_is g v s.head copy ∙ ap (side_or s.head) side_records_are in
    (λ i. reads s.head (keys i) (primary i) (side i))
    ∙ by_head g v s share f s.head (incoming is_scatter_gather g v) (inputs_there g v s valid here)
    (λ name is_join. ((join_edges g v s valid here name is_join).no_source, two_sides g v s valid here name is_join))
