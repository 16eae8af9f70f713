use Rattle.std.proofs.Common.{◌≡◌, ◌++◌, take, drop, length}
use Rattle.tez_lists.specs.Tables.{each_from}
use Rattle.tez_schedule.specs.Table.{asked_at}
use Rattle.tez_schedule.proofs.seeing.ask.Given as goal

abbrev pub invariant-loop-v : goal.invariant-loop-v
invariant-loop-v l = record {
  sized : length l.greatest ≡ length l.fn.greatest;
  asked : l.greatest ≡ each_from 0 (asked_at l.vertices l.edges) (take l.v l.fn.greatest) ++ drop l.v l.fn.greatest;
}
