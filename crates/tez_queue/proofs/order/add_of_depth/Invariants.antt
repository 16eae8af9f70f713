use Rattle.std.proofs.Common.{◌≡◌, ◌++◌, ◌==◌, filter, slice_index_or}
use Rattle.tez_lists.specs.Numbers.{numbers_from}
use Rattle.tez_queue.proofs.order.add_of_depth.Given as goal

abbrev pub invariant-loop-v : goal.invariant-loop-v
invariant-loop-v l = l.vertices.items ≡ l.fn.vertices.items ++ filter (λ v. slice_index_or l.depths v 0 == l.d) (numbers_from 0 l.v)
