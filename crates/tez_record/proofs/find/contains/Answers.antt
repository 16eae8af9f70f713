use Rattle.tez_record.proofs.FindLemmas.{search_tells}
use Rattle.tez_record.proofs.find.contains.Goals as goal

pub returns-else-text-le-SHORT : goal.returns-else-text-le-SHORT
returns-else-text-le-SHORT c = search_tells c.args.text.now c.args.part.now c.find.result c.is_some.result c.find.ensures c.is_some.ensures
