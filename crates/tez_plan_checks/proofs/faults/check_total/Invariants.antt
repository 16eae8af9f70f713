use Rattle.std.proofs.Common.{◌≡◌, ◌<◌, ◌≤◌, ℕ, false, take, sum_by}
use Rattle.tez_plan.specs.Faults.{physical_inputs, too_many_inputs}
use Rattle.tez_plan_checks.proofs.faults.check_total.Given as goal

abbrev pub invariant-loop-e : goal.invariant-loop-e
invariant-loop-e l = record {
  sum : l.total ≡ sum_by (physical_inputs l.graph) (take l.e l.graph.edges);
  few : l.total ≤ 4000000;
  fits : (m : ℕ) → m < l.e → too_many_inputs l.graph m ≡ false;
}
