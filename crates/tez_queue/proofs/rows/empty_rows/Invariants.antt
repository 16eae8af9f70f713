use Rattle.std.proofs.Common.{◌≡◌, false, map, replicate, take}
use Rattle.tez_plan.specs.declared.parts.VertexSpec.{VertexSpec}
use Rattle.tez_queue.proofs.rows.empty_rows.Given as goal

abbrev pub invariant-loop-vertex : goal.invariant-loop-vertex
invariant-loop-vertex l = l.rows.items ≡ map (λ (s : VertexSpec). replicate s.tasks false) (take l.vertex-index l.vertices)
