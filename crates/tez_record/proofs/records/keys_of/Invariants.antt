use Rattle.std.proofs.Common.{◌≡◌, ◌++◌}
use Rattle.tez_record.specs.Line.{lines}
use Rattle.tez_record.proofs.records.keys_of.Given as goal

abbrev pub invariant-loop-line : goal.invariant-loop-line
invariant-loop-line l = l.keys.items ++ lines l.line-iterator.rest.now ≡ l.fn.records
