use Rattle.std.proofs.Common.{◌≡◌, ◌≤◌, ◌-◌, length, take, not}
use Rattle.std.specs.List.{flat_map, filter}
use Rattle.tez_router.specs.State.{AdmittedState}
use Rattle.tez_router.specs.Table.{attempt_notices, is_among}
use Rattle.tez_router.proofs.notices.notices_of.Given as goal

abbrev pub invariant-loop-at : goal.invariant-loop-at
invariant-loop-at l = record {
  inside : l.at ≤ length l.admitted;
  so_far : l.found.items ≡ flat_map (attempt_notices l.links l.loss.task l.loss.lost) (filter (λ (x : AdmittedState). not (is_among l.ended x.attempt)) (take l.at l.admitted));
}

abbrev pub decreases-loop-at : goal.decreases-loop-at
decreases-loop-at l = length l.admitted - l.at
