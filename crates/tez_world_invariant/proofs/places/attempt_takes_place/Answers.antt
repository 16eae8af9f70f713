use Rattle.tez_world_invariant.proofs.PartsPlaces.{place_low, place_vacant, place_keeps}
use Rattle.tez_world_invariant.proofs.places.attempt_takes_place.Goals as goal

pub returns-clause-place : goal.returns-clause-place
returns-clause-place c = place_low

pub returns-clause-vacant : goal.returns-clause-vacant
returns-clause-vacant c = place_vacant

pub returns-clause-kept : goal.returns-clause-kept
returns-clause-kept c = place_keeps
