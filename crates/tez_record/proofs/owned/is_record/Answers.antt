use Rattle.tez_record.proofs.SplitLemmas.{tells_record}
use Rattle.tez_record.proofs.owned.is_record.Goals as goal

pub returns : goal.returns
returns c = tells_record c.args.bytes.now c.memchr.result c.is_none.result c.memchr.ensures c.is_none.ensures
