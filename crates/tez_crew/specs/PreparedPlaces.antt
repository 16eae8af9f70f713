-- Places whose queues are made, before their containers are started.
use Rattle.std.specs.Prelude.{◌≡◌, ℕ, ◌+◌, ◌<◌, List, [], true, length, slice_index_or, Option}
use Rattle.crossbeam_queue.specs.Passes.{view, IsPassOf, ruled_capacity}
use Rattle.crossbeam_queue.specs.declared.array_queue.Doing.{Doing}
use Rattle.crossbeam_queue.specs.declared.array_queue.Slotted.{Slotted}
use Rattle.tez_orders.specs.Outcomes.{ReportParts}
use Rattle.tez_crew.specs.declared.event_queue.EventView.{EventView}
use Rattle.tez_crew.specs.declared.container.Mailbox.{Mailbox}
use Rattle.tez_crew.specs.declared.place_handle.PlaceHandle.{PlaceHandle}
use Rattle.tez_crew.specs.declared.start.PreparedPlace.{PreparedPlace}
use Rattle.tez_crew.specs.Orders.{order_view}
use Rattle.tez_crew.specs.Desks.{puts_of}

-- a pass of its mailbox's queue, with nothing put or taken
abbrev pub IsFreshAt : Mailbox → PreparedPlace → Type 0
IsFreshAt s o = IsPassOf s.order_queue o.pass × (view o.pass ≡ order_view true true [] []) × (ruled_capacity s.order_queue ≡ 64)

-- it is of this place, and fresh at the mailbox of that number
abbrev pub IsPreparedAt : List Mailbox → ℕ → PreparedPlace → Type 0
IsPreparedAt mailboxes place o = (o.place ≡ place) × ((s : Mailbox) → IsFreshAt (slice_index_or mailboxes place s) o)

-- the prepared places fit the mailboxes, place by place
abbrev pub IsPrepared : List Mailbox → List PreparedPlace → Type 0
IsPrepared mailboxes prepared_places = (i : ℕ) (o : PreparedPlace) → i < length prepared_places
    → IsPreparedAt mailboxes i (slice_index_or prepared_places i o)

-- its container is at this place, and reports to this queue
abbrev pub IsHandleAt : {Q A : Type 0} → Slotted (Option ReportParts) (Doing ReportParts EventView) Q A → ℕ → PlaceHandle → Type 0
IsHandleAt events place d =
    (d.container.place ≡ place) × (d.container.events.now.table.shared.table_id ≡ events.table.shared.table_id)

-- the handles have their places in order, and report to this queue
abbrev pub IsPlaced : {Q A : Type 0} → Slotted (Option ReportParts) (Doing ReportParts EventView) Q A → List PlaceHandle → Type 0
IsPlaced events handles = (i : ℕ) (d : PlaceHandle) → i < length handles → IsHandleAt events i (slice_index_or handles i d)

abbrev pub HasNothingPut : List PlaceHandle → Type 0
HasNothingPut handles = (p : ℕ) → slice_index_or (puts_of handles) p [] ≡ []

abbrev pub IsLinedUp : {Q A : Type 0} → Slotted (Option ReportParts) (Doing ReportParts EventView) Q A → List PlaceHandle → Type 0
IsLinedUp events handles = IsPlaced events handles × HasNothingPut handles

-- the prepared places that are left fit the mailboxes from the place `made` on
abbrev pub IsPreparedFrom : List Mailbox → List PreparedPlace → ℕ → Type 0
IsPreparedFrom mailboxes prepared_places made = (k : ℕ) (o : PreparedPlace) → k < length prepared_places
    → IsPreparedAt mailboxes (made + k) (slice_index_or prepared_places k o)

-- the handles that are left have their places in order from `done` on
abbrev pub IsPlacedFrom : {Q A : Type 0} → Slotted (Option ReportParts) (Doing ReportParts EventView) Q A → List PlaceHandle → ℕ → Type 0
IsPlacedFrom events handles done = (k : ℕ) (d : PlaceHandle) → k < length handles → IsHandleAt events (done + k) (slice_index_or handles k d)
