use Rattle.std.proofs.Common.{◌≡◌, ◌==◌, filter, map, take}
use Rattle.std.specs.List.{enumerate_from}
use Rattle.tez_plan.specs.Dag.{from}
use Rattle.tez_assembly.specs.Order.{out_for}
use Rattle.tez_assembly.proofs.edges.outs_of_vertex.Given as goal

abbrev pub invariant-loop-e : goal.invariant-loop-e
invariant-loop-e l = l.outs.items ≡ map (out_for l.fn.plan) (filter (λ e. from l.fn.plan e.1 == l.fn.v.0) (enumerate_from 0 (take l.e l.fn.plan.edges)))
