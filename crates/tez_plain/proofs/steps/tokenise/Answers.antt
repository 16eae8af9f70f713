use Rattle.tez_record.proofs.BlockLemmas.{first_is_record}
use Rattle.tez_plain.proofs.steps.tokenise.Goals as goal

pub push_words-requires : goal.push_words-requires
push_words-requires c = first_is_record c.loop-line.line-iterator.rest.now _ _ c.in-Some.ensures.steps
