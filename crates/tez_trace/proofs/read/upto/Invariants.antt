use Rattle.std.proofs.Common.{◌≡◌, take}
use Rattle.tez_trace.specs.Said.{upto}
use Rattle.tez_trace.proofs.read.upto.Given as goal

abbrev pub invariant-loop-byte : goal.invariant-loop-byte
invariant-loop-byte l = l.value ≡ upto l.most (take l.byte-index l.digits)
