use Rattle.std.proofs.Common.{◌≡◌, length}
use Rattle.tez_lists.specs.Tables.{each_from}
use Rattle.tez_pool.proofs.PoolLemmas.{lose_first}
use Rattle.tez_pool.proofs.pool.lose_places.Given as goal

abbrev pub invariant-loop-i : goal.invariant-loop-i
invariant-loop-i l = record {
  long : length l.places ≡ length l.fn.places;
  places : l.places ≡ each_from 0 (lose_first l.i l.per_node l.slot l.next) l.fn.places;
}
