use Rattle.std.proofs.Common.{length}
use Rattle.tez_journal.specs.Reading.{IsPart}
use Rattle.tez_journal.proofs.text.read_gated.Given as goal

abbrev pub invariant-loop-alloc : goal.invariant-loop-alloc
invariant-loop-alloc l = IsPart l.bytes l.rest l.records.items

abbrev pub decreases-loop-alloc : goal.decreases-loop-alloc
decreases-loop-alloc l = length l.rest
