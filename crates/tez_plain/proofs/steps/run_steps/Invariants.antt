use Rattle.std.proofs.Common.{◌≡◌, drop}
use Rattle.tez_values.specs.Steps.{run, bad_in_steps}
use Rattle.tez_values.specs.Program.{least_of}
use Rattle.tez_plain.proofs.steps.run_steps.Given as goal

abbrev pub invariant-loop-step : goal.invariant-loop-step
invariant-loop-step l = record {
  made : run (drop l.step-index l.steps) l.made ≡ run l.fn.steps l.fn.rows;
  bad : least_of (bad_in_steps (drop l.step-index l.steps) l.made) ≡ least_of (bad_in_steps l.fn.steps l.fn.rows);
}
