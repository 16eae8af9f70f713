use Rattle.std.proofs.Common.{◌≡◌, take}
use Rattle.tez_orders.proofs.copies.copy_outs.Given as goal

abbrev pub invariant-loop-edge : goal.invariant-loop-edge
invariant-loop-edge l = l.copies.items ≡ take l.edge-index l.outs
