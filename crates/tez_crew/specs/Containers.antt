-- What is known of a container and of its place.
use Rattle.std.specs.Prelude.{◌≡◌, List, length}
use Rattle.crossbeam_queue.specs.Passes.{view, IsPassOf}
use Rattle.tez_ids.specs.declared.AttemptId.{AttemptId}
use Rattle.tez_orders.specs.Orders.{OrderParts}
use Rattle.tez_crew.specs.declared.container.Container.{Container}
use Rattle.tez_crew.specs.declared.container.ContainerResult.{ContainerResult}
use Rattle.tez_crew.specs.Orders.{taker, IsPartLeft}
use Rattle.tez_crew.specs.Events.{reporter}

-- the passes are of the container's queues, and the views a container's
abbrev pub IsResultOf : Container → ContainerResult → Type 0
IsResultOf p w =
    IsPassOf p.mailbox.now.order_queue w.orders × IsPassOf p.events.now w.reports
    × (view w.orders ≡ taker (view w.orders).taken) × (view w.reports ≡ reporter p.place (view w.reports).reported)

-- the same place at the same two queues
abbrev pub IsSameContainer : Container → Container → Type 0
IsSameContainer p q =
    (p.mailbox.now.order_queue.table.shared.table_id ≡ q.mailbox.now.order_queue.table.shared.table_id)
    × (p.events.now.table.shared.table_id ≡ q.events.now.table.shared.table_id) × (p.place ≡ q.place)

-- at one moment the queue held 64 orders, the last of those that were put
abbrev pub WasFull : List AttemptId → Type 0
WasFull put = (items : List OrderParts) × (length items ≡ 64) × IsPartLeft put items
