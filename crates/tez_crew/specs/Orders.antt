-- The rule of an order queue: what was put is what was taken and then what the queue holds. One pass at most puts and knows what was put, and one at most takes and knows what was taken.
use Rattle.std.specs.Prelude.{◌≡◌, ℕ, Bool, true, false, List, [], ◌++◌, map}
use mathlib.Core.Option.{some}
use lib.ListN.{get_elem?}
use Rattle.tez_ids.specs.declared.AttemptId.{AttemptId}
use Rattle.tez_orders.specs.Orders.{OrderParts}
use Rattle.tez_crew.specs.declared.order_queue.OrderView.{OrderView}

abbrev pub order_view : Bool → Bool → List AttemptId → List AttemptId → OrderView
order_view puts takes put taken = record { puts = puts; takes = takes; put = put; taken = taken }

-- the dispatcher's view, and the container's
abbrev pub putter : List AttemptId → OrderView
putter put = order_view true false put []

abbrev pub taker : List AttemptId → OrderView
taker taken = order_view false true [] taken

abbrev pub attempts : List OrderParts → List AttemptId
attempts orders = map (λ o. o.attempt) orders

abbrev pub KnowsOrders : ℕ → ℕ → List AttemptId → List AttemptId → ℕ → OrderView → Type 0
KnowsOrders writer reader put taken pass v = (v.puts ≡ true → (pass ≡ writer) × (v.put ≡ put)) × (v.takes ≡ true → (pass ≡ reader) × (v.taken ≡ taken))

pub record OrdersFit (items : List OrderParts) (views : List OrderView) : Type 0 where
  pub writer : ℕ
  pub reader : ℕ
  pub put : List AttemptId
  pub taken : List AttemptId
  pub whole : put ≡ taken ++ attempts items
  pub each : (pass : ℕ) (v : OrderView) → get_elem? views pass ≡ some v → KnowsOrders writer reader put taken pass v

-- what the queue holds is the last part of what was put
abbrev pub IsPartLeft : List AttemptId → List OrderParts → Type 0
IsPartLeft put items = (taken : List AttemptId) × (put ≡ taken ++ attempts items)
