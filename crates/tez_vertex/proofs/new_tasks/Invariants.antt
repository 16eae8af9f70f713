use Rattle.std.proofs.Common.{◌≡◌, map}
use Rattle.tez_lists.specs.Numbers.{numbers_from}
use Rattle.tez_ids.specs.Same.{task}
use Rattle.tez_task.specs.Table.{new_task}
use Rattle.tez_vertex.proofs.new_tasks.Given as goal

abbrev pub invariant-loop-index : goal.invariant-loop-index
invariant-loop-index l = l.tasks.items ≡ map (λ i. new_task (task l.vertex.0 i) l.epoch.0 l.max_failed) (numbers_from 0 l.index)
