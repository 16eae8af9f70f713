use Rattle.tez_record.specs.Line.{lines}
use Rattle.tez_plain.proofs.KeyLemmas.{AreEntered}
use Rattle.tez_plain.proofs.keyed.beside_fields.Given as goal

abbrev pub invariant-loop-line : goal.invariant-loop-line
invariant-loop-line l = AreEntered l.fn.cols l.fn.records l.entries.items (lines l.line-iterator.rest.now)
