use Rattle.std.proofs.Common.{[]}
use Rattle.tez_queue.specs.Kept.{start_of}
use Rattle.tez_queue.proofs.ListLemmas.{map_more}
use Rattle.tez_queue.proofs.order.starts_of.Goals as goal

pub loop-v-preserved : goal.loop-v-preserved
loop-v-preserved c = map_more (start_of c.args.rows.now c.args.vertices.now) c.loop-v.v [] c.loop-v.starts.items c.push.new.self.items c.start_of.result c.loop-v.invariant c.start_of.ensures c.in_ok-push.ensures.items
