-- What a graph keeps beside the lists of a plan.
use Rattle.std.specs.Prelude.{◌≡◌, ℕ, ◌<◌, ◌≤◌, ◌==◌, ◌&&◌, Bool, false, not, List, map, length, take, max, slice_get, unwrap_or, All, ◌+◌}
use Rattle.std.specs.List.{AllByRecursion, list_all, list_any, filter, fold, zip, position_or_len}
use Rattle.std.specs.Option.{option_map_or}
use Rattle.std.specs.Str.{bytes_eq}
use Rattle.tez_ids.specs.declared.VertexId.{VertexId}
use Rattle.tez_plan.specs.declared.parts.EdgeSpec.{EdgeSpec}
use Rattle.tez_plan.specs.Dag.{Dag, from, to, vertex, ends_of, is_scatter_gather, keys_of}

-- both ends name vertices
abbrev pub AreInside : Dag → EdgeSpec → Type 0
AreInside p e = (from p e < length p.vertices) × (to p e < length p.vertices)

-- the ends are those of the edges, all of them vertices, of which there are few
pub record IsGraph (p : Dag) (ends : List (VertexId × VertexId)) : Type 0 where
  pub ends_are : ends ≡ map (ends_of p) p.edges
  pub inside : AllByRecursion (AreInside p) p.edges
  pub few_vertices : length p.vertices ≤ 64
  pub few_edges : length p.edges ≤ 256

-- the scatter-gather edges into v, each beside its ends
unfoldable pub gathers : List EdgeSpec → List (VertexId × VertexId) → ℕ → List (EdgeSpec × (VertexId × VertexId))
gathers es ends v = filter (λ q. is_scatter_gather q.0 && q.1.1.0 == v) (zip es ends)

-- each of them has these columns; each has so many
unfoldable pub all_have_keys : List ℕ → List EdgeSpec → List (VertexId × VertexId) → ℕ → Bool
all_have_keys keys es ends v = list_all (λ q. bytes_eq keys (keys_of q.0)) (gathers es ends v)

unfoldable pub all_have_count : ℕ → List EdgeSpec → List (VertexId × VertexId) → ℕ → Bool
all_have_count count es ends v = list_all (λ q. count == length (keys_of q.0)) (gathers es ends v)

-- ---- names in order

-- the ends of an edge, and whether one is missing
abbrev pub ends_among : List (List ℕ) → EdgeSpec → VertexId × VertexId
ends_among names e = (vertex (position_or_len (bytes_eq e.source) names), vertex (position_or_len (bytes_eq e.target) names))

abbrev pub unknown_among : List (List ℕ) → List EdgeSpec → ℕ → Bool
unknown_among names es n = option_map_or (λ e. not (list_any (bytes_eq e.source) names && list_any (bytes_eq e.target) names)) (slice_get es n) false

-- these ends stand there before
abbrev pub ends_again : List (VertexId × VertexId) → ℕ → Bool
ends_again ends n = option_map_or (λ t. list_any (λ u. t.0.0 == u.0.0 && t.1.0 == u.1.0) (take n ends)) (slice_get ends n) false

-- ---- steps along the edges

-- both ends are below n
abbrev pub AllWithin : ℕ → List (VertexId × VertexId) → Type 0
AllWithin n ends = All (λ t. (t.0.0 < n) × (t.1.0 < n)) ends

-- some edge leads to v from a vertex that is not out
unfoldable pub waits_for : List (VertexId × VertexId) → List Bool → ℕ → Bool
waits_for ends out v = list_any (λ t. t.1.0 == v && not (unwrap_or (slice_get out t.0.0) false)) ends

-- one more than the greatest known of the sources of v, and 0 where there is none
unfoldable pub longest_into : List (VertexId × VertexId) → List ℕ → ℕ → ℕ
longest_into ends known v = fold max 0 (map (λ t. 1 + unwrap_or (slice_get known t.0.0) 0) (filter (λ t. t.1.0 == v) ends))
