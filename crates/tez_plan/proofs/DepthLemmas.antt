-- A vertex's depth is the length of the longest path to it.
--     depth_is        in a valid plan
use Rattle.std.proofs.Common.{◌≡◌, ◌⊎◌, inl, inr, ⊎_elim, ℕ, zero, suc, ◌+◌, ◌<◌, ◌≤◌, ◌==◌, ◌&&◌, max, true, cond, List, [], ◌∷◌, length, map, fold, refl, sym, ap, ◌∙◌, subst, arith, filter, eqb-true, eq-eqb}
use Rattle.std.specs.List.{AllByRecursion, list_any}
use Rattle.std.proofs.lemmas.Bool.{and_parts, and_from, or_left, or_right, or_cases, cases_lt}
use Rattle.tez_lists.proofs.Cases.{cases, both}
use Rattle.tez_plan.specs.declared.parts.EdgeSpec.{EdgeSpec}
use Rattle.tez_plan.specs.Dag.{Dag, from, to, edges_into, IsEdge}
use Rattle.tez_plan.specs.Order.{sources_of, depth, EndsPath, IsLongest}
use Rattle.tez_plan.specs.Faults.{IsValid}
use Rattle.tez_plan.proofs.OrderLemmas.{all_filter, LooksAtSources, by_sources-step}
use Rattle.tez_plan.specs.Graph.{AreInside}
use Rattle.tez_plan.proofs.RankLemmas.{ranked, inside_edges}

-- the greatest of one more than what is known of each
abbrev greatest : (ℕ → ℕ) → ℕ → List ℕ → ℕ
greatest known a us = fold max a (map (λ u. 1 + known u) us)

greatest-start : (known : ℕ → ℕ) (a : ℕ) (us : List ℕ) → a ≤ greatest known a us
greatest-start known a [] = omega arith
greatest-start known a (u ∷ us) = let rest = greatest-start known (max a (1 + known u)) us in omega arith

greatest-agree : (f g : ℕ → ℕ) (p : Dag) (a : ℕ) (es : List EdgeSpec) → AllByRecursion (λ e. f (from p e) ≡ g (from p e)) es → greatest f a (map (from p) es) ≡ greatest g a (map (from p) es)
greatest-agree f g p a [] all = refl
greatest-agree f g p a (e ∷ es) all = ap (λ n. greatest f (max a (1 + n)) (map (from p) es)) all.0 ∙ greatest-agree f g p (max a (1 + g (from p e))) es all.1

into : Dag → ℕ → List EdgeSpec → List ℕ
into p v es = map (from p) (filter (λ e. to p e == v) es)

-- an edge from u makes it greater than what is known of u
greatest-edge : (known : ℕ → ℕ) (p : Dag) (u v a : ℕ) (es : List EdgeSpec) → list_any (λ e. (from p e == u) && (to p e == v)) es ≡ true → 1 + known u ≤ greatest known a (into p v es)
unfolding into
greatest-edge known p u v a [] h = cc
greatest-edge known p u v a (e ∷ es) h = cases (to p e == v)
    (λ t. ⊎_elim
    (λ k. let start = greatest-start known (max a (1 + known (from p e))) (map (from p) (filter (λ d. to p d == v) es)) in
    let same : known (from p e) ≡ known u = ap known (eqb-true (from p e) u (and_parts _ _ k).0) in
    rw t (omega arith))
    (λ k. rw t (greatest-edge known p u v (max a (1 + known (from p e))) es k))
    (or_cases ((from p e == u) && (to p e == v)) (list_any (λ d. (from p d == u) && (to p d == v)) es) h))
    (λ t. ⊎_elim
    (λ k. both (and_parts _ _ k).1 t)
    (λ k. rw t (greatest-edge known p u v a es k))
    (or_cases ((from p e == u) && (to p e == v)) (list_any (λ d. (from p d == u) && (to p d == v)) es) h))

-- it is the start, or comes of some edge
greatest-from : (known : ℕ → ℕ) (p : Dag) (v a : ℕ) (es : List EdgeSpec) → (greatest known a (into p v es) ≡ a) ⊎ ((u : ℕ) × (list_any (λ e. (from p e == u) && (to p e == v)) es ≡ true) × (greatest known a (into p v es) ≡ 1 + known u))
unfolding into
greatest-from known p v a [] = inl refl
greatest-from known p v a (e ∷ es) = cases (to p e == v)
    (λ t. ⊎_elim
    (λ k. cases_max a (1 + known (from p e))
    (λ m. inl (rw t (k ∙ m)))
    (λ m. inr (from p e, or_left _ _ (and_from _ _ (eq-eqb (from p e) (from p e) refl) t), rw t (k ∙ m))))
    (λ k. inr (k.0, or_right _ _ k.1, rw t k.2))
    (greatest-from known p v (max a (1 + known (from p e))) es))
    (λ t. ⊎_elim (λ k. inl (rw t k)) (λ k. inr (k.0, or_right _ _ k.1, rw t k.2)) (greatest-from known p v a es))
  where
    cases_max : {P : Type 0} (x y : ℕ) → (max x y ≡ x → P) → (max x y ≡ y → P) → P
    cases_max x y f g = ⊎_elim (λ (below : x < y). let m : max x y ≡ y = omega arith in g m) (λ (above : y ≤ x). let m : max x y ≡ x = omega arith in f m) (cases_lt x y)

-- what holds of each edge to v holds of an edge from u to v
at_edge : (p : Dag) (u v : ℕ) (P : ℕ → Type 0) (es : List EdgeSpec) → AllByRecursion (λ e. P (from p e)) (filter (λ e. to p e == v) es) → list_any (λ e. (from p e == u) && (to p e == v)) es ≡ true → P u
at_edge p u v P [] all h = cc
at_edge p u v P (e ∷ es) all h = cases (to p e == v)
    (λ t.
    let those : AllByRecursion (λ d. P (from p d)) (e ∷ filter (λ d. to p d == v) es) = subst (λ b. AllByRecursion (λ d. P (from p d)) (cond b (e ∷ filter (λ d. to p d == v) es) (filter (λ d. to p d == v) es))) t all in
    ⊎_elim
    (λ k. subst P (eqb-true (from p e) u (and_parts _ _ k).0) those.0)
    (λ k. at_edge p u v P es those.1 k)
    (or_cases ((from p e == u) && (to p e == v)) (list_any (λ d. (from p d == u) && (to p d == v)) es) h))
    (λ t.
    let those : AllByRecursion (λ d. P (from p d)) (filter (λ d. to p d == v) es) = subst (λ b. AllByRecursion (λ d. P (from p d)) (cond b (e ∷ filter (λ d. to p d == v) es) (filter (λ d. to p d == v) es))) t all in
    ⊎_elim
    (λ k. absurd (both (and_parts _ _ k).1 t))
    (λ k. at_edge p u v P es those k)
    (or_cases ((from p e == u) && (to p e == v)) (list_any (λ d. (from p d == u) && (to p d == v)) es) h))

depth_looks : (p : Dag) → LooksAtSources p (λ v known. greatest known 0 (sources_of p v))
depth_looks p v f g all = greatest-agree f g p 0 (edges_into p v) all

module _ (p : Dag) (valid : IsValid p) where
  depth_step : (v : ℕ) → v < length p.vertices → depth p v ≡ greatest (depth p) 0 (into p v p.edges)
  unfolding into depth
  depth_step v inside = by_sources-step 0 (λ w known. greatest known 0 (sources_of p w)) p (depth_looks p) (ranked p valid).rank_of (ranked p valid).falls (length p.vertices) v ((ranked p valid).below v inside)

  edge_inside : (u v : ℕ) → IsEdge p u v → u < length p.vertices
  edge_inside u v edge = at_edge p u v (λ x. x < length p.vertices) p.edges
      (all_filter (AreInside p) (λ e. from p e < length p.vertices) (λ e. to p e == v) (λ e k h. h.0) p.edges (inside_edges p valid)) edge

  most : (m v : ℕ) → v < length p.vertices → EndsPath p m v → m ≤ depth p v
  most zero v inside path = omega arith
  most (suc m) v inside path =
      let rest = most m path.0 (edge_inside path.0 v path.1) path.2 in
      let edge = greatest-edge (depth p) p path.0 v 0 p.edges path.1 in
      let step = depth_step v inside in
      omega arith

  longest : (n v : ℕ) → (ranked p valid).rank_of v < n → v < length p.vertices → EndsPath p (depth p v) v
  longest zero v h inside = absurd (omega arith)
  longest (suc n) v h inside = ⊎_elim
      (λ e. subst (λ d. EndsPath p d v) (sym (depth_step v inside ∙ e)) tt)
      (λ e.
      let lower = at_edge p e.0 v (λ u. (ranked p valid).rank_of u < (ranked p valid).rank_of v) p.edges ((ranked p valid).falls v) e.1 in
      let next : depth p v ≡ suc (depth p e.0) = depth_step v inside ∙ e.2 ∙ more (depth p e.0) in
      subst (λ d. EndsPath p d v) (sym next) (e.0, e.1, longest n e.0 (omega arith) (edge_inside e.0 v e.1)))
      (greatest-from (depth p) p v 0 p.edges)
    where
      more : (n : ℕ) → 1 + n ≡ suc n
      more n = omega arith

  pub depth_is : (v : ℕ) → v < length p.vertices → IsLongest p v (depth p v)
  depth_is v inside = record { path = longest (suc ((ranked p valid).rank_of v)) v (omega arith) inside; most = λ m path. most m v inside path }
