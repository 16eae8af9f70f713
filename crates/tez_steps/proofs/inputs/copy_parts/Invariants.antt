use Rattle.std.proofs.Common.{◌≡◌, take}
use Rattle.tez_steps.proofs.inputs.copy_parts.Given as goal

abbrev pub invariant-loop-edge : goal.invariant-loop-edge
invariant-loop-edge l = l.copies.items ≡ take l.edge-index l.parts
