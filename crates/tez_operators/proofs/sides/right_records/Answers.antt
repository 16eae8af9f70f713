use Rattle.std.proofs.Common.{◌∙◌, ap, sym, not}
use Rattle.tez_operators.proofs.PartLemmas.{taken, left_out}
use Rattle.tez_operators.specs.Process.{is_left}
use Rattle.tez_operators.proofs.sides.right_records.Goals.{then-not-is_left+in_ok-append, else-not-is_left}
use Rattle.tez_operators.proofs.sides.right_records.Goals as goal

pub loop-source-preserved : goal.loop-source-preserved
loop-source-preserved c = elim c.if-not-is_left.branch [
  | then-not-is_left+in_ok-append w ↦
      taken (λ u. not (is_left c.args.head.now c.args.keys.now u)) c.args.parts.now c.loop-source.source-index c.loop-source-item.result c.loop-source-test.true c.loop-source-item.is
      c.loop-source.records c.if-not-is_left.records (ap not (sym w.if-not-is_left.ensures)) c.loop-source.invariant (w.records-is ∙ w.in_ok-append.ensures)
  | else-not-is_left w ↦
      left_out (λ u. not (is_left c.args.head.now c.args.keys.now u)) c.args.parts.now c.loop-source.source-index c.loop-source-item.result c.loop-source-test.true c.loop-source-item.is
      c.loop-source.records c.if-not-is_left.records (ap not (sym w.if-not-is_left.ensures)) c.loop-source.invariant w.records-is
]
