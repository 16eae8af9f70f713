use Rattle.std.proofs.Common.{◌≡◌, ◌-◌, ◌≤◌, [], length}
use Rattle.std.specs.List.{flat_map, range_with_len}
use Rattle.tez_router.specs.Table.{input_fetch}
use Rattle.tez_router.proofs.fetches.first_over.Given as goal

abbrev pub invariant-loop-from : goal.invariant-loop-from
invariant-loop-from l = record {
  inside : l.from ≤ length l.inputs.fetched;
  none : flat_map (input_fetch l.rows l.link l.attempt l.inputs) (range_with_len 0 l.from) ≡ [];
}

abbrev pub decreases-loop-from : goal.decreases-loop-from
decreases-loop-from l = l.end - l.from
