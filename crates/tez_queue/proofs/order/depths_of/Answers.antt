use Rattle.tez_plan.specs.Order.{depth}
use Rattle.std.proofs.Common.{[]}
use Rattle.tez_queue.proofs.ListLemmas.{map_more}
use Rattle.tez_queue.proofs.order.depths_of.Goals as goal

pub loop-v-preserved : goal.loop-v-preserved
loop-v-preserved c = map_more (depth c.args.p.now) c.loop-v.v [] c.loop-v.depths.items c.push.new.self.items c.depth.result c.loop-v.invariant c.depth.ensures c.in_ok-push.ensures.items
