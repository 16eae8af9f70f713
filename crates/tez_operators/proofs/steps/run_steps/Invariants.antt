use Rattle.std.proofs.Common.{◌≡◌, ◌≤◌, ◌-◌, drop, length}
use Rattle.tez_values.specs.Steps.{run, bad_in_steps}
use Rattle.tez_values.specs.Program.{least_of}
use Rattle.tez_operators.proofs.steps.run_steps.Given as goal

abbrev pub invariant-loop-done : goal.invariant-loop-done
invariant-loop-done l = record {
  few : l.done ≤ length l.fn.steps;
  made : run (drop l.done l.fn.steps) l.made ≡ run l.fn.steps l.fn.rows;
  bad : least_of (bad_in_steps (drop l.done l.fn.steps) l.made) ≡ least_of (bad_in_steps l.fn.steps l.fn.rows);
}

abbrev pub decreases-loop-done : goal.decreases-loop-done
decreases-loop-done l = length l.fn.steps - l.done
