use Rattle.std.proofs.Common.{◌≡◌, ◌++◌, take, drop, map}
use Rattle.tez_schedule.specs.Table.{fed_with}
use Rattle.tez_schedule.proofs.changes.set_fed.Given as goal

abbrev pub invariant-loop-x : goal.invariant-loop-x
invariant-loop-x l = l.vertices ≡ map (fed_with l.t.vertex.0 l.t.index l.has) (take l.x-index l.fn.vertices) ++ drop l.x-index l.fn.vertices
