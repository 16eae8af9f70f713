-- Edges beside their ends.
--     filter_zip        those of a kind into a vertex
use Rattle.std.proofs.Common.{◌≡◌, ℕ, ◌==◌, ◌&&◌, Bool, true, false, cond, List, [], ◌∷◌, length, map, refl, sym, ap, ◌∙◌, filter, count_by, ◌≤◌, ◌||◌, not, arith, ne_eqb, suc}
use Rattle.std.proofs.lemmas.List.{length-map}
use Rattle.std.proofs.lemmas.List.Folds.{list_all-map}
use Rattle.std.specs.List.{zip, list_any, list_all}
use Rattle.std.proofs.lemmas.List.Sums.{length-filter, count_by-le-length}
use Rattle.tez_lists.proofs.Cases.{cases}
use Rattle.tez_ids.specs.declared.VertexId.{VertexId}
use Rattle.tez_plan.specs.declared.parts.EdgeSpec.{EdgeSpec}
use Rattle.std.specs.Str.{bytes_eq}
use Rattle.tez_plan.specs.Dag.{Dag, from, to, ends_of, vertex, edges_from, is_scatter_gather, keys_of}
use Rattle.tez_plan.specs.Graph.{gathers, all_have_keys, all_have_count}
use Rattle.tez_plan.specs.Faults.{incoming}

pub filter_zip : (kind : EdgeSpec → Bool) (p : Dag) (v : ℕ) (es : List EdgeSpec) → filter (λ q. kind q.0 && q.1.1.0 == v) (zip es (map (ends_of p) es)) ≡ map (λ e. (e, ends_of p e)) (filter kind (filter (λ e. to p e == v) es))
filter_zip kind p v [] = refl
filter_zip kind p v (e ∷ es) = let rest = filter_zip kind p v es in
    cases (kind e)
    (λ k. cases (to p e == v) (λ t. rw (k, t, k) (ap (λ r. (e, ends_of p e) ∷ r) rest)) (λ t. rw (k, t) rest))
    (λ k. cases (to p e == v) (λ t. rw (k, t, k) rest) (λ t. rw (k, t) rest))

pub list_any-map : {X Y : Type 0} (test : Y → Bool) (f : X → Y) (xs : List X) → list_any test (map f xs) ≡ list_any (λ x. test (f x)) xs
list_any-map test f [] = refl
list_any-map test f (x ∷ xs) = ap (λ b. test (f x) || b) (list_any-map test f xs)

module _ (kind : EdgeSpec → Bool) (p : Dag) (v : ℕ) (es : List EdgeSpec) (ends : List (VertexId × VertexId)) (e : es ≡ p.edges) (h : ends ≡ map (ends_of p) p.edges) where
  here : EdgeSpec × (VertexId × VertexId) → Bool
  here q = kind q.0 && q.1.1.0 == v

  beside : EdgeSpec → EdgeSpec × (VertexId × VertexId)
  beside d = (d, ends_of p d)

  same_zip : filter (λ q. kind q.0 && q.1.1.0 == v) (zip es ends) ≡ map beside (incoming kind p v)
  unfolding beside
  same_zip =
      ap (λ xs. filter (λ q. kind q.0 && q.1.1.0 == v) (zip xs ends)) e
      ∙ ap (λ ts. filter (λ q. kind q.0 && q.1.1.0 == v) (zip p.edges ts)) h
      ∙ filter_zip kind p v p.edges

  -- how many there are
  pub incoming_zip : count_by (λ q. kind q.0 && q.1.1.0 == v) (zip es ends) ≡ length (incoming kind p v)
  incoming_zip = sym (length-filter (λ q. kind q.0 && q.1.1.0 == v) (zip es ends)) ∙ ap length same_zip ∙ length-map (incoming kind p v) beside

  pub any_zip : (test : EdgeSpec → Bool) → list_any (λ q. test q.0) (filter (λ q. kind q.0 && q.1.1.0 == v) (zip es ends)) ≡ list_any test (incoming kind p v)
  unfolding beside
  any_zip test = ap (list_any (λ q. test q.0)) same_zip ∙ list_any-map (λ q. test q.0) beside (incoming kind p v)

  pub all_zip : (test : EdgeSpec → Bool) → list_all (λ q. test q.0) (filter (λ q. kind q.0 && q.1.1.0 == v) (zip es ends)) ≡ list_all test (incoming kind p v)
  unfolding beside
  all_zip test = ap (list_all (λ q. test q.0)) same_zip ∙ list_all-map (λ q. test q.0) beside (incoming kind p v)

module _ (p : Dag) (v : ℕ) (es : List EdgeSpec) (ends : List (VertexId × VertexId)) (e : es ≡ p.edges) (h : ends ≡ map (ends_of p) p.edges) where
  -- some edge comes from the vertex of this name
  pub any_from : (name : List ℕ) → list_any (λ q. bytes_eq name q.0.source) (gathers es ends v) ≡ list_any (λ d. bytes_eq name d.source) (incoming is_scatter_gather p v)
  unfolding gathers
  any_from name = any_zip is_scatter_gather p v es ends e h (λ d. bytes_eq name d.source)

  -- each two have the same columns
  pub same_columns : list_all (λ q. all_have_keys (keys_of q.0) es ends v) (gathers es ends v) ≡ list_all (λ d. list_all (λ f. bytes_eq (keys_of d) (keys_of f)) (incoming is_scatter_gather p v)) (incoming is_scatter_gather p v)
  unfolding gathers all_have_keys
  same_columns =
      ap (λ test. list_all test (gathers es ends v)) (λ i q. all_zip is_scatter_gather p v es ends e h (λ f. bytes_eq (keys_of q.0) (keys_of f)) i)
      ∙ all_zip is_scatter_gather p v es ends e h (λ d. list_all (λ f. bytes_eq (keys_of d) (keys_of f)) (incoming is_scatter_gather p v))

  -- each two have as many
  pub same_counts : list_all (λ q. all_have_count (length (keys_of q.0)) es ends v) (gathers es ends v) ≡ list_all (λ d. list_all (λ f. length (keys_of d) == length (keys_of f)) (incoming is_scatter_gather p v)) (incoming is_scatter_gather p v)
  unfolding gathers all_have_count
  same_counts =
      ap (λ test. list_all test (gathers es ends v)) (λ i q. all_zip is_scatter_gather p v es ends e h (λ f. length (keys_of q.0) == length (keys_of f)) i)
      ∙ all_zip is_scatter_gather p v es ends e h (λ d. list_all (λ f. length (keys_of d) == length (keys_of f)) (incoming is_scatter_gather p v))

-- an edge leads out where those that do are not none
pub leads_out : (p : Dag) (v : ℕ) (ends : List (VertexId × VertexId)) → ends ≡ map (ends_of p) p.edges → not (list_any (λ t. t.0.0 == v) ends) ≡ (length (edges_from p v) == 0)
leads_out p v ends h = ap (λ ts. not (list_any (λ t. t.0.0 == v) ts)) h ∙ ap not (list_any-map {Y = VertexId × VertexId} (λ t. t.0.0 == v) (ends_of p) p.edges) ∙ none (λ e. from p e == v) p.edges
  where
    none : (test : EdgeSpec → Bool) (es : List EdgeSpec) → not (list_any test es) ≡ (length (filter test es) == 0)
    none test [] = refl
    none test (e ∷ es) = cases (test e) (λ t. rw t (sym (ne_eqb (suc (length (filter test es))) 0 (λ q. omega arith)))) (λ t. rw t (none test es))

pub filter-le-length : {X : Type 0} (test : X → Bool) (xs : List X) → length (filter test xs) ≤ length xs
filter-le-length test xs = omega (arith, length-filter test xs, count_by-le-length test xs)

pub incoming-le : (kind : EdgeSpec → Bool) (p : Dag) (v : ℕ) → length (incoming kind p v) ≤ length p.edges
incoming-le kind p v = omega (arith, filter-le-length kind (filter (λ e. to p e == v) p.edges), filter-le-length (λ e. to p e == v) p.edges)

pub ruleset counts = (incoming_zip, incoming-le)
