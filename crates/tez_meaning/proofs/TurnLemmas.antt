-- The order of the vertices of a valid plan.
--     all_out           each vertex is in the order
--     its_turn          each vertex in the order is one of the plan, and its sources come before it
use Rattle.std.proofs.Common.{◌≡◌, ℕ, zero, suc, ◌<◌, ◌==◌, ◌||◌, Bool, true, false, List, [], ◌∷◌, length, map, take, get_or, find, refl, sym, subst, arith}
use Rattle.std.specs.List.{AllByRecursion, list_all}
use Rattle.std.proofs.lemmas.Bool.{and_parts, or_left}
use Rattle.tez_lists.proofs.Cases.{cases}
use Rattle.tez_lists.proofs.Ranges.{all_below}
use Rattle.tez_plan.specs.declared.parts.EdgeSpec.{EdgeSpec}
use Rattle.tez_plan.specs.Dag.{Dag, from, edges_into}
use Rattle.tez_plan.specs.Order.{among, vertex_numbers, sources_of, is_ready, and_then, after, topo}
use Rattle.tez_plan.specs.Faults.{IsValid}
use Rattle.tez_plan.proofs.CheckLemmas.{valid_parts}
use Rattle.tez_plan.proofs.OrderLemmas.{all_map}
use Rattle.tez_plan.proofs.RankLemmas.{find_some, at_option, inside_edges}
use Rattle.tez_plan.proofs.TopoLemmas.{missing}

pub all_out : (p : Dag) → IsValid p → (v : ℕ) → v < length p.vertices → among (topo p) v ≡ true
all_out p valid v inside = cases (among (topo p) v) (λ e. e) (λ e. absurd ((valid_parts p valid).no_cycle v (missing p (inside_edges p valid) v inside e)))

-- each vertex of a list is one of the plan, and its sources are out when it is its turn
abbrev Follows : Dag → List ℕ → List ℕ → Type 0
Follows p out [] = Unit {0}
Follows p out (v ∷ vs) = (v < length p.vertices) × (list_all (among out) (sources_of p v) ≡ true) × Follows p (v ∷ out) vs

after_follows : (p : Dag) (n : ℕ) (out : List ℕ) → Follows p out (after n p out)
after_follows p zero out = tt
after_follows p (suc n) out = at_option (find (is_ready p out) (vertex_numbers p))
    (λ w found.
    let is = find_some (is_ready p out) (λ v. v < length p.vertices) (vertex_numbers p) w (all_below (length p.vertices) (λ v. v < length p.vertices) (λ v h. h)) found in
    subst (λ o. Follows p out (and_then o (λ v. after n p (v ∷ out)))) (sym found) (is.1, (and_parts _ _ is.0).1, after_follows p n (w ∷ out)))
    (λ none. subst (λ o. Follows p out (and_then o (λ v. after n p (v ∷ out)))) (sym none) tt)

out_all : (p : Dag) (out : List ℕ) (es : List EdgeSpec) → list_all (among out) (map (from p) es) ≡ true → AllByRecursion (λ e. among out (from p e) ≡ true) es
out_all p out [] h = tt
out_all p out (e ∷ es) h = let parts = and_parts _ _ h in (parts.0, out_all p out es parts.1)

-- one of the plan, whose sources are out or among the earlier
record Turn (p : Dag) (out earlier : List ℕ) (v : ℕ) : Type 0 where
  inside : v < length p.vertices
  sources : AllByRecursion (λ e. among out (from p e) || among earlier (from p e) ≡ true) (edges_into p v)

swapped : (a b c : Bool) → (a || b) || c ≡ true → b || (a || c) ≡ true
swapped true true c h = refl
swapped true false c h = refl
swapped false true c h = refl
swapped false false c h = h

turn_at : (p : Dag) (out vs : List ℕ) (i v : ℕ) → Follows p out vs → i < length vs → v ≡ get_or vs i v → Turn p out (take i vs) v
turn_at p out [] i v h low e = absurd (omega arith)
turn_at p out (x ∷ vs) zero v h low e = subst (λ w. Turn p out [] w) (sym e) (record {
  inside = h.0;
  sources = all_map (λ d. among out (from p d) ≡ true) (λ d. among out (from p d) || among [] (from p d) ≡ true) (λ d k. or_left _ _ k) (edges_into p x) (out_all p out (edges_into p x) h.1);
})
turn_at p out (x ∷ vs) (suc i) v h low e =
    let rest = turn_at p (x ∷ out) vs i v h.2 (omega arith) e in
    record {
      inside = rest.inside;
      sources = all_map (λ d. among (x ∷ out) (from p d) || among (take i vs) (from p d) ≡ true) (λ d. among out (from p d) || among (x ∷ take i vs) (from p d) ≡ true)
          (λ d k. swapped (x == from p d) (among out (from p d)) (among (take i vs) (from p d)) k) (edges_into p v) rest.sources;
    }

pub record HasTurn (p : Dag) (i v : ℕ) : Type 0 where
  pub inside : v < length p.vertices
  pub sources : AllByRecursion (λ e. among (take i (topo p)) (from p e) ≡ true) (edges_into p v)

follows : (p : Dag) → Follows p [] (topo p)
unfolding topo
follows p = after_follows p (length p.vertices) []

pub its_turn : (p : Dag) (i v : ℕ) → i < length (topo p) → v ≡ get_or (topo p) i v → HasTurn p i v
its_turn p i v low e =
    let turn = turn_at p [] (topo p) i v (follows p) low e in
    record { inside = turn.inside; sources = turn.sources }
