use Rattle.tez_events.proofs.Pairs.{two_words}
use Rattle.tez_events.proofs.codec.pair_at.Goals as goal

pub returns-clause-bytes : goal.returns-clause-bytes
returns-clause-bytes c = two_words c.args.bytes.now c.args.at c.u64_at.result c.u64_at-2.result c.u64_at.ensures c.u64_at-2.ensures
