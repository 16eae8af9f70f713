use Rattle.tez_world_invariant.proofs.PartsPlaces.{send_keeps}
use Rattle.tez_world_invariant.proofs.places.attempt_is_sent.Goals as goal

pub returns : goal.returns
returns c = send_keeps
