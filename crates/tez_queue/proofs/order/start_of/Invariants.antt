use Rattle.std.proofs.Common.{◌≡◌, ◌+◌, ◌≤◌, ◌*◌, drop}
use Rattle.tez_plan.specs.Ranges.{most_tasks}
use Rattle.tez_queue.specs.Kept.{start_of}
use Rattle.tez_queue.proofs.order.start_of.Given as goal

abbrev pub invariant-loop-w : goal.invariant-loop-w
invariant-loop-w l = record {
  rest : l.start + start_of l.rows (drop l.w-index l.vertices) l.v ≡ start_of l.rows l.vertices l.v;
  low : l.start ≤ l.w-index * most_tasks;
}
