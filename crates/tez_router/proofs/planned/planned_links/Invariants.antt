use Rattle.std.proofs.Common.{◌≡◌, map}
use Rattle.std.specs.List.{range_with_len}
use Rattle.tez_router.specs.Planned.{planned_link}
use Rattle.tez_router.proofs.planned.planned_links.Given as goal

abbrev pub invariant-loop-e : goal.invariant-loop-e
invariant-loop-e l = l.links.items ≡ map (planned_link l.p) (range_with_len 0 l.e)
