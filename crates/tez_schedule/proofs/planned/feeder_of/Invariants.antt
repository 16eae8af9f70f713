use Rattle.std.proofs.Common.{◌≡◌, []}
use Rattle.tez_schedule.proofs.PlanLemmas.{passing, feeds_one}
use Rattle.tez_schedule.proofs.planned.feeder_of.Given as goal

abbrev pub invariant-loop-e : goal.invariant-loop-e
invariant-loop-e l = passing (feeds_one l.p l.v.0) 0 l.e l.p.edges ≡ []
