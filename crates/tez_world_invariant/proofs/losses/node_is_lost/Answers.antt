use Rattle.tez_world_invariant.proofs.PartsLosses.{node_low, node_keeps}
use Rattle.tez_world_invariant.proofs.losses.node_is_lost.Goals as goal

pub returns-clause-slot : goal.returns-clause-slot
returns-clause-slot c = node_low

pub returns-clause-kept : goal.returns-clause-kept
returns-clause-kept c = node_keeps
