use Rattle.std.proofs.Common.{◌≡◌, ◌++◌, take, drop, length}
use Rattle.tez_lists.specs.Tables.{each_from}
use Rattle.tez_schedule.specs.Table.{open_by}
use Rattle.tez_schedule.proofs.vertex.reopen.Given as goal

abbrev pub invariant-loop-task : goal.invariant-loop-task
invariant-loop-task l = record {
  sized : length l.open_tasks ≡ length l.fn.open_tasks;
  opened : l.open_tasks ≡ each_from 0 (λ i _. open_by l.config l.fed l.scheduled i) (take l.task l.fn.open_tasks) ++ drop l.task l.fn.open_tasks;
}
