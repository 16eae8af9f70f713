-- What the type of seats keeps of its queue.
--     to_come d                       1 where an order is to go out from a seat, else 0
--     withdrawn d orders              the orders that are not of a seat
--     AreGiven seats orders n c       each of these n orders is out at a seat, and a queue with capacity c has room for those to come beside them
use Rattle.std.specs.Prelude.{◌≡◌, ◌≤◌, ℕ, ◌+◌, not, List, Some, sum_by}
use Rattle.std.specs.List.{AllByRecursion, filter}
use Rattle.tez_ids.specs.declared.AttemptId.{AttemptId}
use Rattle.tez_ids.specs.Same.{same_attempt}
use Rattle.tez_orders.specs.Orders.{OrderParts}
use Rattle.tez_inflight.specs.Seats.{Seat, Vacant, Gathers, Out, order_out}

abbrev pub attempt : OrderParts → AttemptId
attempt order = order.attempt

abbrev pub to_come : Seat → ℕ
to_come Vacant = 0
to_come (Gathers a parts) = 1
to_come (Out order) = 0

abbrev pub IsOut : List Seat → OrderParts → Type 0
IsOut seats order = order_out seats order.attempt ≡ Some order

pub record AreGiven (seats : List Seat) (orders : List OrderParts) (n : ℕ) (capacity : ℕ) : Type 0 where
  pub out : AllByRecursion (IsOut seats) orders
  pub room : n + sum_by to_come seats ≤ capacity

abbrev pub withdrawn : Seat → List OrderParts → List OrderParts
withdrawn Vacant orders = orders
withdrawn (Gathers a parts) orders = orders
withdrawn (Out order) orders = filter (λ o. not (same_attempt o.attempt order.attempt)) orders
