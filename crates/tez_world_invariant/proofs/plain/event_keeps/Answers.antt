use Rattle.tez_world_invariant.proofs.PartsKeep.{plain_keeps}
use Rattle.tez_world_invariant.proofs.plain.event_keeps.Goals as goal

pub returns : goal.returns
returns c = plain_keeps
