use Rattle.std.proofs.Common.{◌≡◌, ◌++◌, take, drop, length}
use Rattle.tez_lists.specs.Tables.{each_from}
use Rattle.tez_schedule.specs.Table.{made_with}
use Rattle.tez_schedule.proofs.changes.set_made.Given as goal

abbrev pub invariant-loop-e : goal.invariant-loop-e
invariant-loop-e l = record {
  sized : length l.edges ≡ length l.fn.edges;
  made : l.edges ≡ each_from 0 (made_with l.t.vertex.0 l.t.index l.made) (take l.e l.fn.edges) ++ drop l.e l.fn.edges;
}
