use Rattle.tez_pool_view.proofs.Stepping.{sent_step}
use Rattle.tez_pool_view.proofs.order_goes_out.Goals as goal

pub returns : goal.returns
returns c = sent_step
