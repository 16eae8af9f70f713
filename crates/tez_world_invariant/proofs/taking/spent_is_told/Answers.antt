use Rattle.tez_world_invariant.proofs.PartsTaking.{spent_told}
use Rattle.tez_world_invariant.proofs.taking.spent_is_told.Goals as goal

pub returns : goal.returns
returns c = spent_told
