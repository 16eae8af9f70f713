use Rattle.tez_record.proofs.BlockLemmas.{first_is_record}
use Rattle.tez_operators.proofs.groups.join.Goals as goal

pub set-requires : goal.set-requires
set-requires c = first_is_record c.loop-line.line-iterator.rest.now _ _ c.in-Some.ensures.steps

pub push_partners-requires : goal.push_partners-requires
push_partners-requires c = first_is_record c.loop-line.line-iterator.rest.now _ _ c.in-Some.ensures.steps
