use Rattle.tez_pool_view.proofs.Stepping.{lost_step}
use Rattle.tez_pool_view.proofs.node_is_lost.Goals as goal

pub returns : goal.returns
returns c = lost_step
