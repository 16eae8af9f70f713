use Rattle.std.proofs.Common.{◌<◌, ◌≤◌, ◌-◌, length, take}
use Rattle.tez_operators.specs.Fuse.{IsPass}
use Rattle.tez_operators.proofs.fuse.pass_len.Given as goal

abbrev pub invariant-loop-end : goal.invariant-loop-end
invariant-loop-end l = record {
  some : 0 < l.end;
  few : l.end ≤ length l.fn.steps;
  pass : IsPass (take l.end l.fn.steps);
}

abbrev pub decreases-loop-end : goal.decreases-loop-end
decreases-loop-end l = length l.fn.steps - l.end
