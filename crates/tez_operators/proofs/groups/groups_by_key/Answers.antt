use Rattle.tez_record.specs.Line.{lines}
use Rattle.tez_record.proofs.BlockLemmas.{first_is_record}
use Rattle.tez_operators.proofs.GroupLemmas.{grouped_more}
use Rattle.tez_operators.proofs.groups.groups_by_key.Goals as goal

pub set-requires : goal.set-requires
set-requires c = first_is_record c.loop-line.line-iterator.rest.now _ _ c.in-Some.ensures.steps

pub add-requires : goal.add-requires
add-requires c = first_is_record c.loop-line.line-iterator.rest.now _ _ c.in-Some.ensures.steps

pub loop-line-preserved : goal.loop-line-preserved
loop-line-preserved c = λ k.
    grouped_more c.args.cols.now k c.set.new.self c.in-Some.line.now c.loop-line.groups.entries c.add.new.groups.entries (lines c.loop-line.line-iterator.rest.now) (lines c.next.new.self.rest.now) c.args.records.now
    c.in-Some.ensures.steps c.in_ok-set.ensures (c.in_ok-add.ensures k) (c.loop-line.invariant k)
