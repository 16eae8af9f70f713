use Rattle.std.proofs.Common.{◌≡◌, ◌==◌, false, take}
use Rattle.std.specs.List.{list_any}
use Rattle.tez_plan.specs.Dag.{from}
use Rattle.tez_core.proofs.sinks.has_edge_out.Given as goal

abbrev pub invariant-loop-e : goal.invariant-loop-e
invariant-loop-e l = list_any (λ e. from l.p e == l.v.0) (take l.e l.p.edges) ≡ false
