use Rattle.std.proofs.Common.{not, rules}
use Rattle.std.proofs.lemmas.Fn.{filter_same}
use Rattle.tez_ids.specs.Same.{same_attempt}
use Rattle.tez_orders.specs.Orders.{OrderParts}
use Rattle.tez_inflight.proofs.orders.drop_order.Goals as goal

pub returns-clause-items : goal.returns-clause-items
returns-clause-items c = filter_same _ (λ (o : OrderParts). not (same_attempt o.attempt c.args.a)) _ (λ x b q called. search rules) _ _ c.retain.ensures.filtered
