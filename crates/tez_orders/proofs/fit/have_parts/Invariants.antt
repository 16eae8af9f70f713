use Rattle.std.proofs.Common.{◌≡◌, true, take}
use Rattle.std.specs.List.{list_all, list_any}
use Rattle.tez_orders.specs.Fit.{has_parts, edges_differ}
use Rattle.tez_orders.proofs.fit.have_parts.Given as goal

abbrev pub invariant-loop-edge : goal.invariant-loop-edge
invariant-loop-edge l = list_all (λ out. has_parts out.1) (take l._edge-index l.outs) ≡ true
