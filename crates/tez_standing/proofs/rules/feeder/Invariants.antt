use Rattle.std.proofs.Common.{◌≡◌, take, ◌&&◌, ◌==◌}
use Rattle.std.specs.Prelude.{None}
use Rattle.std.specs.List.{find}
use Rattle.tez_plan.specs.Dag.{to, is_one_to_one}
use Rattle.tez_standing.proofs.rules.feeder.Given as goal

abbrev pub invariant-loop-e : goal.invariant-loop-e
invariant-loop-e l = find (λ e. is_one_to_one e && (to l.p e == l.v.0)) (take l.e l.p.edges) ≡ None
