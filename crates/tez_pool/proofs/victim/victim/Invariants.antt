use Rattle.std.proofs.Common.{take}
use Rattle.tez_pool.specs.Victim.{IsKnown, candidates}
use Rattle.tez_pool.proofs.VictimLemmas.{IsBest}
use Rattle.tez_pool.proofs.victim.victim.Given as goal

abbrev pub invariant-loop-place : goal.invariant-loop-place
invariant-loop-place l = record {
  best : IsBest l.plan (candidates l.plan l.bound (take l.place-index l.places)) l.best;
  known : IsKnown l.plan l.best;
}
