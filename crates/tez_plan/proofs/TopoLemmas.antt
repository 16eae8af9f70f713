-- The order has every vertex but those on a cycle or behind one.
--     stays_out            a vertex behind a cycle does not come out
--     missing              a vertex that does not come out is behind a cycle
use Rattle.std.proofs.Common.{◌≡◌, ℕ, zero, suc, ◌<◌, ◌≤◌, ◌==◌, ◌&&◌, ◌||◌, Bool, true, false, cond, not, List, [], ◌∷◌, length, map, refl, sym, ap, ◌∙◌, arith, filter, find, Some, eqb-true, IsTrue}
use Rattle.std.specs.List.{AllByRecursion, list_any, list_all}
use Rattle.std.proofs.lemmas.Bool.{and_parts, not-true, or_parts, or_from, false_from_ne_true}
use Rattle.std.proofs.lemmas.List.Sums.{count_by-le-length}
use Rattle.tez_lists.proofs.Cases.{cases, both}
use Rattle.tez_lists.proofs.Ranges.{all_below}
use Rattle.tez_plan.specs.declared.parts.EdgeSpec.{EdgeSpec}
use Rattle.tez_plan.specs.Dag.{Dag, from, to, IsEdge}
use Rattle.tez_plan.specs.Order.{among, vertex_numbers, is_ready, and_then, after, topo}
use Rattle.tez_plan.specs.Faults.{IsBehindCycle}
use Rattle.tez_plan.specs.Graph.{AreInside}
use Rattle.tez_plan.proofs.RankLemmas.{behind, find_none, find_some, at_option, left, left-less, left-some, length-range}

-- where all sources of w are out, each vertex with an edge to w is
source_out : (p : Dag) (out : List ℕ) (u w : ℕ) (es : List EdgeSpec) → list_all (among out) (map (from p) (filter (λ e. to p e == w) es)) ≡ true → list_any (λ e. (from p e == u) && (to p e == w)) es ≡ true → among out u ≡ true
source_out p out u w [] h k = cc
source_out p out u w (e ∷ es) h k = cases (to p e == w)
    (λ t.
    let parts = and_parts (among out (from p e)) (list_all (among out) (map (from p) (filter (λ d. to p d == w) es))) (ap (λ b. list_all (among out) (map (from p) (cond b (e ∷ filter (λ d. to p d == w) es) (filter (λ d. to p d == w) es)))) (sym t) ∙ h) in
    cases (from p e == u)
    (λ f. ap (among out) (sym (eqb-true (from p e) u f)) ∙ parts.0)
    (λ f. source_out p out u w es parts.1 (ap (λ b. (b && (to p e == w)) || list_any (λ d. (from p d == u) && (to p d == w)) es) (sym f) ∙ k)))
    (λ t. source_out p out u w es (ap (λ b. list_all (among out) (map (from p) (cond b (e ∷ filter (λ d. to p d == w) es) (filter (λ d. to p d == w) es)))) (sym t) ∙ h)
    (and_false (from p e == u) (list_any (λ d. (from p d == u) && (to p d == w)) es) ∙ ap (λ b. ((from p e == u) && b) || list_any (λ d. (from p d == u) && (to p d == w)) es) (sym t) ∙ k))
  where
    and_false : (a b : Bool) → b ≡ (a && false) || b
    and_false true b = refl
    and_false false b = refl

all_ready : (p : Dag) (out : List ℕ) (w : ℕ) → find (is_ready p out) (vertex_numbers p) ≡ Some w → (is_ready p out w ≡ true) × (w < length p.vertices)
all_ready p out w f = find_some (is_ready p out) (λ v. v < length p.vertices) (vertex_numbers p) w (all_below (length p.vertices) (λ v. v < length p.vertices) (λ v h. h)) f

module _ (p : Dag) (belongs : ℕ → Bool) (fed : (w : ℕ) → IsTrue (belongs w) → (u : ℕ) × IsTrue (belongs u) × IsEdge p u w) where
  stays : (n : ℕ) (out : List ℕ) → ((w : ℕ) → belongs w ≡ true → among out w ≡ false) → (v : ℕ) → belongs v ≡ true → among (after n p out) v ≡ false
  stays zero out apart v b = refl
  stays (suc n) out apart v b = at_option (find (is_ready p out) (vertex_numbers p))
      (λ w found.
      let is = all_ready p out w found in
      let parts = and_parts _ _ is.0 in
      let free : belongs w ≡ false = false_from_ne_true (belongs w) (λ t. let by = fed w t in both (source_out p out by.0 w p.edges parts.1 by.2) (apart by.0 by.1)) in
      let unlike : (x : ℕ) → belongs x ≡ true → (w == x) ≡ false = λ x t. false_from_ne_true (w == x) (λ e. both t (ap belongs (sym (eqb-true w x e)) ∙ free)) in
      ap (λ o. among (and_then o (λ x. after n p (x ∷ out))) v) found
      ∙ or_from _ _ (unlike v b) (stays n (w ∷ out) (λ x t. or_from _ _ (unlike x t) (apart x t)) v b))
      (λ none. ap (λ o. among (and_then o (λ x. after n p (x ∷ out))) v) none)

pub stays_out : (p : Dag) (v : ℕ) → IsBehindCycle p v → among (topo p) v ≡ false
unfolding topo
stays_out p v h = stays p h.belongs h.fed (length p.vertices) [] (λ w t. refl) v h.itself

missing_after : (p : Dag) → AllByRecursion (AreInside p) p.edges → (n : ℕ) (out : List ℕ) → left p out ≤ n → (v : ℕ) → v < length p.vertices → among out v ≡ false → among (after n p out) v ≡ false → IsBehindCycle p v
missing_after p known zero out few v inside fresh h = let some = left-some p v out inside fresh in absurd (omega arith)
missing_after p known (suc n) out few v inside fresh h = at_option (find (is_ready p out) (vertex_numbers p))
    (λ w found.
    let is = all_ready p out w found in
    let less = left-less p w out is.1 (not-true _ (and_parts _ _ is.0).0) in
    let parts = or_parts (w == v) (among (after n p (w ∷ out)) v) (ap (λ o. among (and_then o (λ x. after n p (x ∷ out))) v) (sym found) ∙ h) in
    missing_after p known n (w ∷ out) (omega arith) v inside (or_from _ _ parts.0 fresh) parts.1)
    (λ none. behind p out known (find_none (is_ready p out) (vertex_numbers p) none) v inside fresh)

pub missing : (p : Dag) → AllByRecursion (AreInside p) p.edges → (v : ℕ) → v < length p.vertices → among (topo p) v ≡ false → IsBehindCycle p v
unfolding topo
missing p known v inside h = missing_after p known (length p.vertices) [] (omega (arith, count_by-le-length (λ u. not (among [] u)) (vertex_numbers p), length-range 0 (length p.vertices))) v inside refl h
