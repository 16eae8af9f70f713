-- What is gathered along the edges into a vertex is what its head reads.
--     ahead_edges, beside_edges      the edges of a vertex, in one walk over all
--     first_kept, no_column          the first edge that passes
--     reads_are                      the parts are what the head reads
use Rattle.std.proofs.Common.{◌≡◌, ◌∙◌, ℕ, ◌+◌, ◌<◌, ◌≤◌, ◌==◌, Bool, true, false, cond, not, List, [], ◌∷◌, ◌++◌, flat_map, filter, length, take, drop, get_or, take_all, sym, ap, ap₂}
use Rattle.std.specs.Option.{option_map_or}
use Rattle.std.proofs.lemmas.List.{take-append-drop, drop_more}
use Rattle.tez_lists.proofs.Flat.{filter-append}
use Rattle.tez_plan.specs.declared.parts.VertexSpec.{VertexSpec}
use Rattle.tez_plan.specs.declared.parts.EdgeSpec.{EdgeSpec}
use Rattle.tez_plan.specs.declared.parts.Head.{Head}
use Rattle.tez_plan.specs.Dag.{Dag, from, to, edges_into, is_broadcast}
use Rattle.tez_plain.specs.Reads.{reads}
use Rattle.tez_meaning.specs.Jobs.{Job}
use Rattle.tez_meaning.specs.Value.{is_left, columns_of, inputs_of, lines_of}
use Rattle.tez_meaning.specs.Known.{Table, known_in, is_on_side, is_ahead, is_beside}
use Rattle.tez_meaning.proofs.EdgeLists.{filter_both}
use Rattle.tez_meaning.proofs.JoinLemmas.{ahead_of}

-- ---- one walk over the edges

pub ahead_edges : (p : Dag) (v : ℕ) (head : Head) (left : Bool) → filter (is_ahead p v head left) p.edges ≡ filter (λ e. cond left (is_left head e) (not (is_left head e))) (ahead_of p v)
ahead_edges p v head left =
    filter_both (λ e. to p e == v) (is_on_side head left) p.edges
    ∙ filter_both (λ e. not (is_broadcast e)) (λ e. cond left (is_left head e) (not (is_left head e))) (edges_into p v)

pub beside_edges : (p : Dag) (v : ℕ) → filter (is_beside p v) p.edges ≡ filter is_broadcast (edges_into p v)
beside_edges p v = filter_both (λ e. to p e == v) is_broadcast p.edges

-- ---- the first edge

pub first_kept : {X : Type 0} (q : X → Bool) (xs : List X) (i : ℕ) (x : X) → i < length xs → x ≡ get_or xs i x → filter q (take i xs) ≡ [] → q x ≡ true → filter q xs ≡ x ∷ filter q (drop (i + 1) xs)
first_kept q xs i x low is none passes =
    let cut : xs ≡ take i xs ++ x ∷ drop (i + 1) xs = sym (take-append-drop i xs) ∙ ap (λ ys. take i xs ++ ys) (drop_more xs i x low ∙ ap (λ y. y ∷ drop (i + 1) xs) (sym is)) in
    ap (filter q) cut
    ∙ filter-append q (take i xs) (x ∷ drop (i + 1) xs)
    ∙ ap₂ (λ a b. a ++ cond b (x ∷ filter q (drop (i + 1) xs)) (filter q (drop (i + 1) xs))) none passes

pub no_column : (q : EdgeSpec → Bool) (es : List EdgeSpec) (i : ℕ) → length es ≤ i → filter q (take i es) ≡ [] → [] ≡ columns_of (filter q es)
no_column q es i past none = sym (ap columns_of (ap (filter q) (sym (take_all i es past)) ∙ none))

-- ---- what the head reads

abbrev bags : Dag → Table → List EdgeSpec → List (List ℕ)
bags p values es = flat_map (λ e. known_in values (from p e)) es

module _ (job : Job) (v : ℕ) (s : VertexSpec) (values : Table) where
  abbrev ahead : Bool → List EdgeSpec
  ahead left = filter (is_ahead job.plan v s.head left) job.plan.edges

  pub reads_are : (columns partner_columns : List ℕ) (primary partner side : List (List ℕ)) → columns ≡ columns_of (ahead true) → primary ≡ option_map_or (lines_of job) s.source [] ++ bags job.plan values (ahead true)
      → partner_columns ≡ columns_of (ahead false) → partner ≡ bags job.plan values (ahead false) → side ≡ bags job.plan values (filter (is_beside job.plan v) job.plan.edges)
      → reads columns primary partner_columns partner side ≡ inputs_of job v s (known_in values)
  reads_are columns partner_columns primary partner side a b c d e =
      let p = job.plan in
      let left = ahead_edges p v s.head true in
      let right = ahead_edges p v s.head false in
      let primary_is = b ∙ ap (λ es. option_map_or (lines_of job) s.source [] ++ bags p values es) left in
      let columns_is = a ∙ ap columns_of left in
      let partner_columns_is = c ∙ ap columns_of right in
      let partner_is = d ∙ ap (bags p values) right in
      let side_is = e ∙ ap (bags p values) (beside_edges p v) in
      λ i. reads (columns_is i) (primary_is i) (partner_columns_is i) (partner_is i) (side_is i)
