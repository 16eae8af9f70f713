use Rattle.tez_world_invariant.proofs.PartsKeep.{quiet_keeps}
use Rattle.tez_world_invariant.proofs.plain.quiet_event_keeps.Goals as goal

pub returns : goal.returns
returns c = quiet_keeps
