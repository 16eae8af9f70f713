use Rattle.std.proofs.Common.{◌≡◌, ◌==◌, filter, map, take}
use Rattle.std.specs.List.{enumerate_from}
use Rattle.tez_plan.specs.Dag.{to, edge}
use Rattle.tez_assembly.proofs.edges.edges_into.Given as goal

abbrev pub invariant-loop-e : goal.invariant-loop-e
invariant-loop-e l = l.found.items ≡ map (λ e. edge e.0) (filter (λ e. to l.fn.plan e.1 == l.fn.v.0) (enumerate_from 0 (take l.e l.fn.plan.edges)))
