use Rattle.std.proofs.Common.{◌≡◌, ◌++◌, map, []}
use Rattle.tez_lists.specs.Numbers.{numbers_from}
use Rattle.tez_queue.specs.Kept.{start_of}
use Rattle.tez_queue.proofs.order.starts_of.Given as goal

abbrev pub invariant-loop-v : goal.invariant-loop-v
invariant-loop-v l = l.starts.items ≡ [] ++ map (start_of l.rows l.vertices) (numbers_from 0 l.v)
