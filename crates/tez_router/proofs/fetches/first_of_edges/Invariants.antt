use Rattle.std.proofs.Common.{◌≡◌, [], take}
use Rattle.std.specs.List.{flat_map}
use Rattle.tez_router.specs.Table.{edge_fetches}
use Rattle.tez_router.proofs.fetches.first_of_edges.Given as goal

abbrev pub invariant-loop-inputs : goal.invariant-loop-inputs
invariant-loop-inputs l = flat_map (edge_fetches l.links l.rows l.attempt) (take l.inputs-index l.edges) ≡ []
