use Rattle.std.proofs.Common.{◌≡◌, map}
use Rattle.tez_lists.specs.Numbers.{numbers_from}
use Rattle.tez_schedule.specs.Planned.{planned_edge}
use Rattle.tez_schedule.proofs.planned.planned_edges.Given as goal

abbrev pub invariant-loop-e : goal.invariant-loop-e
invariant-loop-e l = l.edges.items ≡ map (planned_edge l.p) (numbers_from 0 l.e)
