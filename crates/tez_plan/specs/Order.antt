-- The order of the vertices.
--     topo p             again and again the least vertex whose predecessors are all out
--     by_sources n ..    what each vertex gets from what its sources got
--     depth p v          the number of edges of the longest path to it
use Rattle.std.specs.Prelude.{ℕ, zero, suc, ◌+◌, ◌≤◌, max, ⊤, Bool, not, List, [], ◌∷◌, ◌==◌, ◌&&◌, map, length, Option, Some, None}
use Rattle.std.specs.List.{find, list_any, list_all, range_with_len, fold}
use Rattle.tez_plan.specs.Dag.{Dag, from, edges_into, IsEdge}

abbrev pub among : List ℕ → ℕ → Bool
among vs v = list_any (λ u. u == v) vs

abbrev pub vertex_numbers : Dag → List ℕ
vertex_numbers p = range_with_len 0 (length p.vertices)

abbrev pub sources_of : Dag → ℕ → List ℕ
sources_of p v = map (from p) (edges_into p v)

-- v is not out, and all its predecessors are
abbrev pub is_ready : Dag → List ℕ → ℕ → Bool
is_ready p out v = not (among out v) && list_all (among out) (sources_of p v)

-- the first of them, and what follows it
abbrev pub and_then : Option ℕ → (ℕ → List ℕ) → List ℕ
and_then None rest = []
and_then (Some v) rest = v ∷ rest v

-- the vertices that follow those that are out, at most n of them
abbrev pub after : ℕ → Dag → List ℕ → List ℕ
after zero p out = []
after (suc n) p out = and_then (find (is_ready p out) (vertex_numbers p)) (λ v. after n p (v ∷ out))

unfoldable pub topo : Dag → List ℕ
topo p = after (length p.vertices) p []

-- What `step` makes of v from what it makes of v's sources, along paths of fewer than n edges. No path of a plan without a cycle has as many edges as the plan has vertices.
abbrev pub by_sources : {X : Type 0} → X → (ℕ → (ℕ → X) → X) → ℕ → ℕ → X
by_sources none step zero v = none
by_sources none step (suc n) v = step v (by_sources none step n)

-- one more than the greatest that is known of the sources, and 0 where there is none
abbrev pub one_longer : Dag → ℕ → (ℕ → ℕ) → ℕ
one_longer p v known = fold max 0 (map (λ u. 1 + known u) (sources_of p v))

unfoldable pub depth : Dag → ℕ → ℕ
depth p = by_sources 0 (one_longer p) (length p.vertices)

-- some path of n edges ends at v
abbrev pub EndsPath : Dag → ℕ → ℕ → Type 0
EndsPath p zero v = ⊤
EndsPath p (suc n) v = (u : ℕ) × IsEdge p u v × EndsPath p n u

-- the longest path that ends at v has n edges
pub record IsLongest (p : Dag) (v n : ℕ) : Type 0 where
  pub path : EndsPath p n v
  pub most : (m : ℕ) → EndsPath p m v → m ≤ n
