use Rattle.std.proofs.Common.{◌≡◌, ◌≤◌, take}
use Rattle.std.specs.Prelude.{is_some, cond}
use Rattle.std.specs.List.{sum_by}
use Rattle.tez_plan.specs.declared.parts.VertexSpec.{VertexSpec}
use Rattle.tez_standing.proofs.rules.sinks.Given as goal

abbrev pub invariant-loop-vertex : goal.invariant-loop-vertex
invariant-loop-vertex l = record {
  so_far : l.count ≡ sum_by (λ (s : VertexSpec). cond (is_some s.sink) 1 0) (take l.vertex-index l.vertices);
  small : l.count ≤ l.vertex-index;
}
