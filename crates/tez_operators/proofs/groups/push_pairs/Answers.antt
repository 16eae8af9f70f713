use Rattle.tez_record.proofs.BlockLemmas.{first_is_record}
use Rattle.tez_operators.proofs.groups.push_pairs.Goals as goal

pub push_joined-requires-clause-right : goal.push_joined-requires-clause-right
push_joined-requires-clause-right c = first_is_record c.loop-right.right-iterator.rest.now _ _ c.in-Some.ensures.steps
