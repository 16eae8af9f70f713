use Rattle.std.proofs.Common.{◌≡◌, length}
use Rattle.tez_record.specs.Line.{lines}
use Rattle.tez_partition.proofs.DealLemmas.{AreDealt}
use Rattle.tez_partition.proofs.dealt.Given as goal

abbrev pub invariant-loop-line : goal.invariant-loop-line
invariant-loop-line l = record {
  size : length l.made.items ≡ l.parts;
  dealt : AreDealt l.cols l.parts l.made.items (lines l.line-iterator.rest.now) l.fn.rs;
}
