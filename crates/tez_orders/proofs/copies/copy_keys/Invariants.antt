use Rattle.std.proofs.Common.{◌≡◌, take}
use Rattle.tez_orders.proofs.copies.copy_keys.Given as goal

abbrev pub invariant-loop-vertex : goal.invariant-loop-vertex
invariant-loop-vertex l = l.copies.items ≡ take l.vertex-index l.keys
