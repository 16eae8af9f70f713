use Rattle.tez_work_view.proofs.OrderLemmas.{order_there}
use Rattle.tez_work_view.proofs.orders.orders_are_there.Goals as goal

pub returns : goal.returns
returns c = order_there
