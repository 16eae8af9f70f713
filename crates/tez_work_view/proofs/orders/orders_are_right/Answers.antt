use Rattle.tez_work_view.proofs.OrderLaws.{order_value, order_bad}
use Rattle.tez_work_view.proofs.orders.orders_are_right.Goals as goal

pub returns : goal.returns
returns c = record { value = order_value; bad = order_bad }
