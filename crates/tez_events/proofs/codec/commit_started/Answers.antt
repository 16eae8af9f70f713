use Rattle.std.proofs.Common.{rules}
use Rattle.tez_events.proofs.Bodies.{no_sums}
use Rattle.tez_events.proofs.codec.commit_started.Goals as goal

pub returns-then-pairs-count : goal.returns-then-pairs-count
returns-then-pairs-count c = no_sums c.args.rest.now c.u16_at-count.result (search rules) c.u16_at-count.ensures c.if-pairs-count.true
