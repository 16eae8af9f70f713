use Rattle.tez_pool_view.proofs.Holding.{new_view}
use Rattle.tez_pool_view.proofs.pool_is_new.Goals as goal

pub returns : goal.returns
returns c = new_view
