use Rattle.std.proofs.Common.{[]}
use Rattle.tez_queue.specs.Queue.{of_depth}
use Rattle.tez_queue.proofs.ListLemmas.{flat_numbers_more}
use Rattle.tez_queue.proofs.order.by_depth.Goals as goal

pub loop-d-preserved : goal.loop-d-preserved
loop-d-preserved c = flat_numbers_more (of_depth c.args.depths.now) c.loop-d.d [] c.loop-d.vertices.items c.add_of_depth.new.vertices.items c.loop-d.invariant c.in_ok-add_of_depth.ensures
