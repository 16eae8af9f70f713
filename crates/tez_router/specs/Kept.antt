-- What the type of a router keeps.
use Rattle.std.specs.Prelude.{◌≤◌, List, length}
use Rattle.std.specs.List.{AllByRecursion}
use Rattle.tez_router.specs.State.{LinkState, AdmittedState}
use Rattle.tez_router.specs.Edges.{AreNumberedFrom, AreInto}
use Rattle.tez_router.specs.Order.{AreInOrder}

-- there are few edges, in the order of their numbers, and the admitted attempts are in order, with inputs over edges into their vertices
pub record IsKept (links : List LinkState) (admitted : List AdmittedState) : Type 0 where
  pub few : length links ≤ 256
  pub numbered : AreNumberedFrom 0 links
  pub ordered : AreInOrder admitted
  pub into : AllByRecursion (AreInto links) admitted
