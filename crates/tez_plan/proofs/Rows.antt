-- Worked examples of plans, each by computing.
use Rattle.std.proofs.Common.{◌≡◌, ℕ, zero, suc, IsTrue, true, false, [], ◌∷◌, refl, None, map, ltb, ltb-true, arith}
use Rattle.std.specs.List.{range_with_len}
use Rattle.tez_plan.specs.Faults.{IsBehindCycle, key_differs, leaf_without_sink, head_inputs, no_primary, mixed_primary, too_many_inputs}
use Rattle.tez_plan.specs.Order.{topo, depth}
use Rattle.tez_plan.specs.Dag.{IsEdge}
use Rattle.tez_plan.proofs.Samples.{wc, wc_with, two_ways, sum_one_to_one, pairs, countries}

-- both vertices are on the cycle, the first is answered
pub on_cycle : IsBehindCycle two_ways 0
on_cycle = record { belongs = λ v. ltb v 2; itself = refl; fed = fed }
  where
    fed : (w : ℕ) → IsTrue (ltb w 2) → (u : ℕ) × IsTrue (ltb u 2) × IsEdge two_ways u w
    fed zero h = (1, refl, refl)
    fed (suc zero) h = (0, refl, refl)
    fed (suc (suc w)) h = absurd (omega (arith, ltb-true (suc (suc w)) 2 h))

differs : (key_differs sum_one_to_one 0 ≡ false) × (key_differs sum_one_to_one 1 ≡ true)
differs = (refl, refl)

leaf : (leaf_without_sink (wc_with None) 0 ≡ false) × (leaf_without_sink (wc_with None) 1 ≡ true)
leaf = (refl, refl)

-- wc.json has none of these faults
sound : (head_inputs wc 1 ≡ false) × (no_primary wc 1 ≡ false) × (mixed_primary wc 1 ≡ false) × (key_differs wc 1 ≡ false) × (leaf_without_sink wc 1 ≡ false) × (too_many_inputs wc 0 ≡ false)
sound = (refl, refl, refl, refl, refl, refl)

order_of_pairs : topo pairs ≡ 0 ∷ 1 ∷ 2 ∷ []
unfolding topo
order_of_pairs = refl

-- users, then the orders, then the totals
order_of_countries : topo countries ≡ 2 ∷ 1 ∷ 0 ∷ []
unfolding topo
order_of_countries = refl

-- a cycle stays out
order_of_cycle : topo two_ways ≡ []
unfolding topo
order_of_cycle = refl

depths : map (depth countries) (range_with_len 0 3) ≡ 2 ∷ 1 ∷ 0 ∷ []
unfolding depth
depths = refl
