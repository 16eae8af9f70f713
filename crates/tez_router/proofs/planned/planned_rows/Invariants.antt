use Rattle.std.proofs.Common.{◌≡◌, take, map}
use Rattle.tez_router.specs.Planned.{no_winners}
use Rattle.tez_router.proofs.planned.planned_rows.Given as goal

abbrev pub invariant-loop-vertex : goal.invariant-loop-vertex
invariant-loop-vertex l = l.rows.items ≡ map no_winners (take l.vertex-index l.vertices)
