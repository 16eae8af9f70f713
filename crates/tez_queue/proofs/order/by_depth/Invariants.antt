use Rattle.std.proofs.Common.{◌≡◌, ◌++◌, flat_map, []}
use Rattle.tez_lists.specs.Numbers.{numbers_from}
use Rattle.tez_queue.specs.Queue.{of_depth}
use Rattle.tez_queue.proofs.order.by_depth.Given as goal

abbrev pub invariant-loop-d : goal.invariant-loop-d
invariant-loop-d l = l.vertices.items ≡ [] ++ flat_map (of_depth l.depths) (numbers_from 0 l.d)
