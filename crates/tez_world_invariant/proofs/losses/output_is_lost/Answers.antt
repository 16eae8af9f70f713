use Rattle.tez_world_invariant.proofs.PartsLosses.{output_won, output_keeps}
use Rattle.tez_world_invariant.proofs.losses.output_is_lost.Goals as goal

pub returns-clause-won : goal.returns-clause-won
returns-clause-won c = output_won

pub returns-clause-kept : goal.returns-clause-kept
returns-clause-kept c = output_keeps
