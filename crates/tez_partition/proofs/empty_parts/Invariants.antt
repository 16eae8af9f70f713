use Rattle.std.proofs.Common.{◌≡◌, [], replicate}
use Rattle.tez_partition.proofs.empty_parts.Given as goal

abbrev pub invariant-loop-p : goal.invariant-loop-p
invariant-loop-p l = l.made.items ≡ replicate l._p []
