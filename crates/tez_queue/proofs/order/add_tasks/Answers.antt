use Rattle.std.proofs.Common.{refl}
use Rattle.tez_ids.specs.Same.{task}
use Rattle.tez_queue.proofs.ListLemmas.{map_more}
use Rattle.tez_queue.proofs.order.add_tasks.Goals as goal

pub loop-index-preserved : goal.loop-index-preserved
loop-index-preserved c = map_more (task c.args.v) c.loop-index.index c.args.tasks.now.items c.loop-index.tasks.items c.push.new.self.items (task c.args.v c.loop-index.index) c.loop-index.invariant refl c.in_ok-push.ensures.items
