use Rattle.std.proofs.Common.{◌≡◌, ◌++◌, map, []}
use Rattle.tez_lists.specs.Numbers.{numbers_from}
use Rattle.tez_plan.specs.Order.{depth}
use Rattle.tez_queue.proofs.order.depths_of.Given as goal

abbrev pub invariant-loop-v : goal.invariant-loop-v
invariant-loop-v l = l.depths.items ≡ [] ++ map (depth l.p) (numbers_from 0 l.v)
