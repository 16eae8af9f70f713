-- No vertex of a valid plan is as deep as the plan has vertices.
use Rattle.std.proofs.Common.{◌≡◌, ⊎_elim, ℕ, zero, suc, ◌<◌, ◌≤◌, ◌==◌, ◌&&◌, true, cond, List, [], ◌∷◌, length, subst, arith, filter}
use Rattle.std.specs.List.{AllByRecursion, list_any}
use Rattle.std.proofs.lemmas.Bool.{and_parts, or_cases}
use Rattle.std.proofs.Common.{eqb-true}
use Rattle.tez_lists.proofs.Cases.{cases, both}
use Rattle.tez_plan.specs.declared.parts.EdgeSpec.{EdgeSpec}
use Rattle.tez_plan.specs.Dag.{Dag, from, to}
use Rattle.tez_plan.specs.Order.{depth, EndsPath}
use Rattle.tez_plan.specs.Faults.{IsValid}
use Rattle.tez_plan.proofs.RankLemmas.{ranked}
use Rattle.tez_plan.proofs.DepthLemmas.{depth_is}

-- what holds of the source of each edge to v holds of u, where an edge leads from u to v
at_edge : (p : Dag) (u v : ℕ) (P : ℕ → Type 0) (es : List EdgeSpec) → AllByRecursion (λ e. P (from p e)) (filter (λ e. to p e == v) es) → list_any (λ e. (from p e == u) && (to p e == v)) es ≡ true → P u
at_edge p u v P [] all h = cc
at_edge p u v P (e ∷ es) all h = cases (to p e == v)
    (λ t.
    let those : AllByRecursion (λ d. P (from p d)) (e ∷ filter (λ d. to p d == v) es) = subst (λ b. AllByRecursion (λ d. P (from p d)) (cond b (e ∷ filter (λ d. to p d == v) es) (filter (λ d. to p d == v) es))) t all in
    ⊎_elim
    (λ k. subst P (eqb-true (from p e) u (and_parts _ _ k).0) those.0)
    (λ k. at_edge p u v P es those.1 k)
    (or_cases ((from p e == u) && (to p e == v)) (list_any (λ d. (from p d == u) && (to p d == v)) es) h))
    (λ t.
    let those : AllByRecursion (λ d. P (from p d)) (filter (λ d. to p d == v) es) = subst (λ b. AllByRecursion (λ d. P (from p d)) (cond b (e ∷ filter (λ d. to p d == v) es) (filter (λ d. to p d == v) es))) t all in
    ⊎_elim
    (λ k. absurd (both (and_parts _ _ k).1 t))
    (λ k. at_edge p u v P es those k)
    (or_cases ((from p e == u) && (to p e == v)) (list_any (λ d. (from p d == u) && (to p d == v)) es) h))

path_rank : (g : Dag) (valid : IsValid g) (n v : ℕ) → EndsPath g n v → n ≤ (ranked g valid).rank_of v
path_rank g valid zero v h = omega arith
path_rank g valid (suc n) v h =
    let rank = (ranked g valid).rank_of in
    let lower : rank h.0 < rank v = at_edge g h.0 v (λ u. rank u < rank v) g.edges ((ranked g valid).falls v) h.1 in
    let rest = path_rank g valid n h.0 h.2 in
    omega arith

pub shallow : (g : Dag) → IsValid g → (v : ℕ) → v < length g.vertices → depth g v < length g.vertices
shallow g valid v h =
    let low = path_rank g valid (depth g v) v (depth_is g valid v h).path in
    let high = (ranked g valid).below v h in
    omega arith
