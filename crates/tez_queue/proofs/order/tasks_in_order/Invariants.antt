use Rattle.std.proofs.Common.{◌≡◌, ◌++◌, flat_map, take, []}
use Rattle.tez_queue.specs.Kept.{tasks_of}
use Rattle.tez_queue.proofs.order.tasks_in_order.Given as goal

abbrev pub invariant-loop-v : goal.invariant-loop-v
invariant-loop-v l = l.tasks.items ≡ [] ++ flat_map (tasks_of l.rows) (take l.v-index l.vertices)
