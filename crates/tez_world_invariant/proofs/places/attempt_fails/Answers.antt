use Rattle.tez_world_invariant.proofs.PartsPlaces.{fail_placed, fail_keeps, fail_leaves}
use Rattle.tez_world_invariant.proofs.places.attempt_fails.Goals as goal

pub returns-clause-placed : goal.returns-clause-placed
returns-clause-placed c = fail_placed

pub returns-clause-kept : goal.returns-clause-kept
returns-clause-kept c = fail_keeps

pub returns-clause-left : goal.returns-clause-left
returns-clause-left c = fail_leaves
