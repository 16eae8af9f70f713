use Rattle.std.proofs.Common.{◌≡◌}
use Rattle.tez_record.specs.Line.{lines}
use Rattle.tez_record.specs.Field.{key}
use Rattle.tez_plain.specs.Keyed.{one_each}
use Rattle.tez_plain.proofs.KeyLemmas.{AreEntered}
use Rattle.tez_plain.proofs.keyed.beside_copies.Given as goal

abbrev pub invariant-loop-line : goal.invariant-loop-line
invariant-loop-line l = record {
  entered : AreEntered l.fn.cols l.fn.records l.entries.items (lines l.line-iterator.rest.now);
  copies : lines l.keys.rest.now ≡ one_each (key l.fn.cols) (lines l.line-iterator.rest.now);
}
