use Rattle.std.proofs.Common.{◌≡◌, take, not}
use Rattle.tez_operators.specs.Process.{is_left, records_of}
use Rattle.tez_operators.proofs.sides.right_records.Given as goal

abbrev pub invariant-loop-source : goal.invariant-loop-source
invariant-loop-source l = l.records ≡ records_of (λ u. not (is_left l.fn.head l.fn.keys u)) (take l.source-index l.parts)
