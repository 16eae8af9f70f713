use Rattle.tez_record.specs.Line.{IsRecord}
use Rattle.tez_plain.proofs.PairLemmas.{at_entry, pair_pushed}
use Rattle.tez_plain.proofs.pairs.push_pairs.Goals as goal

pub push_joined-requires-clause-right : goal.push_joined-requires-clause-right
push_joined-requires-clause-right c = at_entry IsRecord c.args.run.now c.loop-entry.entry-index c.entry-item.result c.loop-entry-test.true c.entry-item.is c.requires.right

pub loop-entry-preserved : goal.loop-entry-preserved
loop-entry-preserved c = pair_pushed c.args.left.now c.args.run.now c.loop-entry.entry-index c.entry-item.result c.args.rows.now c.loop-entry.rows c.push_joined.new.self c.loop-entry-test.true c.entry-item.is c.loop-entry.invariant c.in_ok-push_joined.ensures
