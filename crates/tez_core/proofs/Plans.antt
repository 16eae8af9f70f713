-- What a valid plan keeps.
use Rattle.std.specs.Prelude.{◌≡◌, ℕ, zero, suc, ◌<◌, ◌≤◌, ◌+◌, ◌||◌, ◌==◌, if◌then◌else◌, max, nat_lt, true, false, List, [], ◌∷◌, length, map, refl}
use Rattle.std.specs.List.{filter, fold, AllByRecursion}
use Rattle.std.proofs.Common.{ap, sym, ◌∙◌, subst, arith}
use Rattle.std.proofs.lemmas.Bool.{ltb-false, eqb-true}
use Rattle.tez_lists.proofs.Cases.{cases}
use Rattle.tez_plan.specs.Dag.{Dag, from, to, edges_into}
use Rattle.tez_plan.specs.Order.{depth, by_sources, one_longer}
use Rattle.tez_plan.specs.declared.parts.EdgeSpec.{EdgeSpec}
use Rattle.tez_plan.specs.Faults.{IsValid}
use Rattle.tez_plan.specs.Graph.{AreInside}
use Rattle.tez_plan.proofs.RankLemmas.{inside_edges}
use Rattle.tez_plan.proofs.CheckLemmas.{valid_parts}

pub few_edges : (g : Dag) → IsValid g → length g.edges ≤ 256
few_edges g valid = cases (nat_lt 256 (length g.edges)) (λ e. absurd ((valid_parts g valid).few_parts 256 (subst (λ b. (false || b) ≡ true) (sym e) refl))) (λ e. ltb-false 256 (length g.edges) e)

-- ---- a vertex that is not there has depth 0

differ : (a b : ℕ) → a < b → (a == b) ≡ false
differ a b l = cases (a == b) (λ e. let same : a ≡ b = eqb-true a b e in absurd (omega arith)) (λ e. e)

none_into : (g : Dag) (v : ℕ) (es : List EdgeSpec) → AllByRecursion (AreInside g) es → length g.vertices ≤ v → filter (λ e. to g e == v) es ≡ []
none_into g v [] all l = refl
none_into g v (e ∷ es) all l =
    let inside : to g e < length g.vertices = all.0.1 in
    let other : (to g e == v) ≡ false = differ (to g e) v (omega arith) in
    ap (λ b. if b then e ∷ filter (λ d. to g d == v) es else filter (λ d. to g d == v) es) other ∙ none_into g v es all.1 l

no_sources : (g : Dag) (v n : ℕ) → edges_into g v ≡ [] → by_sources 0 (one_longer g) n v ≡ 0
no_sources g v zero e = refl
no_sources g v (suc n) e = ap (λ es. fold max 0 (map (λ u. 1 + by_sources 0 (one_longer g) n u) (map (from g) es))) e

pub depth_outside : (g : Dag) → IsValid g → (v : ℕ) → length g.vertices ≤ v → depth g v ≡ 0
unfolding depth
depth_outside g valid v l = no_sources g v (length g.vertices) (none_into g v g.edges (inside_edges g valid) l)
