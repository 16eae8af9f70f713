use Rattle.tez_record.proofs.BlockLemmas.{first_is_record}
use Rattle.tez_record.proofs.first.least.Goals as goal

pub copy_of-requires : goal.copy_of-requires
copy_of-requires c = first_is_record c.iter.result.rest.now _ _ c.in-Some.ensures.steps
