use Rattle.std.proofs.Common.{◌≡◌, ◌≤◌, map, length}
use Rattle.tez_schedule.specs.Planned.{input_of}
use Rattle.tez_schedule.proofs.PlanLemmas.{passing, feeds}
use Rattle.tez_schedule.proofs.planned.inputs_of.Given as goal

abbrev pub invariant-loop-e : goal.invariant-loop-e
invariant-loop-e l = record {
  inputs : l.inputs.items ≡ map (input_of l.p) (passing (feeds l.p l.v.0) 0 l.e l.p.edges);
  few : length l.inputs.items ≤ l.e;
}
