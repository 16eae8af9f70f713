use Rattle.std.proofs.Common.{◌≡◌, length}
use Rattle.tez_meaning.proofs.evaluate.empty_table.Given as goal

abbrev pub invariant-loop-v : goal.invariant-loop-v
invariant-loop-v l = length l.values.items ≡ l._v
