use Rattle.std.proofs.Common.{◌≡◌, ◌<◌, ℕ, false, take}
use Rattle.tez_plan.specs.Graph.{ends_again}
use Rattle.tez_plan_checks.proofs.faults.check_repeats.Given as goal

abbrev pub invariant-loop-e : goal.invariant-loop-e
invariant-loop-e l = record {
  seen : l.seen.keys ≡ take l.e l.ends;
  own : (m : ℕ) → m < l.e → ends_again l.ends m ≡ false;
}
