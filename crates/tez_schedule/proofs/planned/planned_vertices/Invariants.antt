use Rattle.std.proofs.Common.{◌≡◌, map}
use Rattle.tez_lists.specs.Numbers.{numbers_from}
use Rattle.tez_schedule.specs.Planned.{planned_vertex}
use Rattle.tez_schedule.proofs.planned.planned_vertices.Given as goal

abbrev pub invariant-loop-v : goal.invariant-loop-v
invariant-loop-v l = l.vertices.items ≡ map (planned_vertex l.p l.c) (numbers_from 0 l.v)
