use Rattle.std.proofs.Common.{◌≡◌, ℕ, ◌+◌}
use Rattle.tez_trace.specs.Said.{split, piece}
use Rattle.tez_trace.proofs.read.piece.Given as goal

abbrev pub invariant-loop-passed : goal.invariant-loop-passed
invariant-loop-passed l = (j : ℕ) → piece (split l.separator l.rest) j ≡ piece (split l.separator l.text) (l._passed + j)
