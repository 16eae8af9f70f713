use Rattle.tez_record.proofs.BlockLemmas.{first_is_record}
use Rattle.tez_plain.proofs.steps.project.Goals as goal

pub push_key-requires : goal.push_key-requires
push_key-requires c = first_is_record c.loop-line.line-iterator.rest.now _ _ c.in-Some.ensures.steps
