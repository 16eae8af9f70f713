use Rattle.std.proofs.Common.{◌≡◌, length}
use Rattle.tez_orders.specs.Fit.{has_parts, edges_differ}
use Rattle.tez_orders.proofs.fit.edges_differ.Given as goal

abbrev pub invariant-loop-edge : goal.invariant-loop-edge
invariant-loop-edge l = edges_differ l.rest ≡ edges_differ l.fn.outs

abbrev pub decreases-loop-edge : goal.decreases-loop-edge
decreases-loop-edge l = length l.rest
