use Rattle.std.proofs.Common.{◌≡◌, ◌++◌, map}
use Rattle.tez_ids.specs.Same.{task}
use Rattle.tez_lists.specs.Numbers.{numbers_from}
use Rattle.tez_queue.proofs.order.add_tasks.Given as goal

abbrev pub invariant-loop-index : goal.invariant-loop-index
invariant-loop-index l = l.tasks.items ≡ l.fn.tasks.items ++ map (task l.v) (numbers_from 0 l.index)
