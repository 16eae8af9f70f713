use Rattle.tez_world_invariant.proofs.PartsPlaces.{preempt_placed, preempt_keeps, preempt_leaves}
use Rattle.tez_world_invariant.proofs.places.attempt_gives_way.Goals as goal

pub returns-clause-placed : goal.returns-clause-placed
returns-clause-placed c = preempt_placed

pub returns-clause-kept : goal.returns-clause-kept
returns-clause-kept c = preempt_keeps

pub returns-clause-left : goal.returns-clause-left
returns-clause-left c = preempt_leaves
