-- What the type of a plan keeps.
use Rattle.std.specs.Prelude.{◌≡◌, ℕ, List, map}
use Rattle.tez_ids.specs.declared.VertexId.{VertexId}
use Rattle.tez_plan.specs.Dag.{Dag, vertex}
use Rattle.tez_plan.specs.Faults.{IsValid}
use Rattle.tez_plan.specs.Order.{topo, depth, vertex_numbers}
use Rattle.tez_plan.specs.Ranges.{IsInRanges}

-- it is valid, and its order and depths are kept
pub record IsKept (p : Dag) (order : List VertexId) (depths : List ℕ) : Type 0 where
  pub in_ranges : IsInRanges p
  pub valid : IsValid p
  pub order_is : order ≡ map vertex (topo p)
  pub depths_are : depths ≡ map (depth p) (vertex_numbers p)
