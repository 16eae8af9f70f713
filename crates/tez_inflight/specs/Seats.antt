-- The seats of places: what the attempt at a place has gathered while it waits, and its order once that is out.
--     seat_at seats p            the seat of a place, vacant where there is no such place
--     attempt_of d               the attempt at a seat
--     gatherer d                 the attempt that waits there
--     order_of d                 the order that went out from there
--     order_out seats a          the order of attempt a, where it is out
--     IsAtSeat seats a o         this order lies at a seat, and is of attempt a
--     first_order s              the first order that is out and was not taken
--     new_seats n                n vacant seats
--     after_seat s p a edges     attempt a waits at place p, and has gathered nothing over these edges
--     after_gather s p n rs      it has gathered these records over edge n
--     after_send s p o           its order is out
--     after_leave s p            nobody is at the place
--     after_leaves s ps          so it is at all these places
--     after_take s               the first order that is out and was not taken is taken
use Rattle.std.specs.Prelude.{◌≡◌, ℕ, Bool, true, not, ◌==◌, ◌&&◌, if◌then◌else◌, List, [], ◌∷◌, ◌++◌, map, replicate, slice_get, slice_set, Option, Some, None, is_some, unwrap_or}
use Rattle.std.specs.List.{filter, fold, list_any}
use Rattle.tez_ids.specs.declared.AttemptId.{AttemptId}
use Rattle.tez_ids.specs.declared.EdgeId.{EdgeId}
use Rattle.tez_ids.specs.Same.{same_attempt}
use Rattle.tez_orders.specs.Orders.{OrderParts}

abbrev pub Records : Type 0
Records = List (List ℕ)

-- records by the number of their edge
abbrev pub Gathered : Type 0
Gathered = List (ℕ × Records)

pub data Seat : Type 0 where
  Vacant : Seat
  Gathers : (attempt : AttemptId) → (parts : Gathered) → Seat
  Out : (order : OrderParts) → Seat

-- the orders that are out and were not taken, in the order in which they went out
pub record SeatsState : Type 0 where
  pub seats : List Seat
  pub queue : List AttemptId

-- ---- edges by their numbers

abbrev pub number : EdgeId → ℕ
number e = e.0

abbrev pub numbered : EdgeId × Records → ℕ × Records
numbered part = (part.0.0, part.1)

abbrev pub numbers_differ : List ℕ → Bool
numbers_differ [] = true
numbers_differ (n ∷ ns) = not (list_any (λ m. m == n) ns) && numbers_differ ns

-- ---- what seats tell

abbrev pub seat_at : List Seat → ℕ → Seat
seat_at seats p = unwrap_or (slice_get seats p) Vacant

abbrev pub attempt_of : Seat → Option AttemptId
attempt_of Vacant = None
attempt_of (Gathers a parts) = Some a
attempt_of (Out order) = Some order.attempt

abbrev pub gatherer : Seat → Option AttemptId
gatherer Vacant = None
gatherer (Gathers a parts) = Some a
gatherer (Out order) = None

abbrev pub order_of : Seat → Option OrderParts
order_of Vacant = None
order_of (Gathers a parts) = None
order_of (Out order) = Some order

abbrev pub is_out : Seat → Bool
is_out seat = is_some (order_of seat)

-- the order of a seat, else another one
abbrev pub order_or : AttemptId → Seat → Option OrderParts → Option OrderParts
order_or a Vacant other = other
order_or a (Gathers b parts) other = other
order_or a (Out order) other = if same_attempt a order.attempt then Some order else other

abbrev pub order_out : List Seat → AttemptId → Option OrderParts
order_out [] a = None
order_out (seat ∷ seats) a = order_or a seat (order_out seats a)

abbrev pub first_out : List Seat → List AttemptId → Option OrderParts
first_out seats [] = None
first_out seats (a ∷ queue) = order_out seats a

abbrev pub first_order : SeatsState → Option OrderParts
first_order s = first_out s.seats s.queue

-- the order lies at a seat, and is of this attempt
pub record IsAtSeat (seats : List Seat) (a : AttemptId) (o : OrderParts) : Type 0 where
  pub place : ℕ
  pub there : seat_at seats place ≡ Out o
  pub same : o.attempt ≡ a

-- ---- how they change

abbrev pub new_seats : ℕ → SeatsState
new_seats n = record { seats = replicate n Vacant; queue = [] }

abbrev pub with_seat : SeatsState → ℕ → Seat → SeatsState
with_seat s p d = record s { seats = slice_set s.seats p d }

abbrev pub nothing_over : ℕ → ℕ × Records
nothing_over n = (n, [])

abbrev pub after_seat : SeatsState → ℕ → AttemptId → List ℕ → SeatsState
after_seat s p a edges = with_seat s p (Gathers a (map nothing_over edges))

-- records at the end of the part of an edge
abbrev pub gathers_over : ℕ → Records → ℕ × Records → ℕ × Records
gathers_over n rs part = if part.0 == n then (part.0, part.1 ++ rs) else part

abbrev pub gathering : ℕ → Records → Seat → Seat
gathering n rs Vacant = Vacant
gathering n rs (Gathers a parts) = Gathers a (map (gathers_over n rs) parts)
gathering n rs (Out order) = Out order

abbrev pub after_gather : SeatsState → ℕ → ℕ → Records → SeatsState
after_gather s p n rs = with_seat s p (gathering n rs (seat_at s.seats p))

abbrev pub after_send : SeatsState → ℕ → OrderParts → SeatsState
after_send s p o = record { seats = slice_set s.seats p (Out o); queue = s.queue ++ o.attempt ∷ [] }

-- the queue without the order of a seat
abbrev pub without_order : Seat → List AttemptId → List AttemptId
without_order Vacant queue = queue
without_order (Gathers a parts) queue = queue
without_order (Out order) queue = filter (λ a. not (same_attempt a order.attempt)) queue

abbrev pub after_leave : SeatsState → ℕ → SeatsState
after_leave s p = record { seats = slice_set s.seats p Vacant; queue = without_order (seat_at s.seats p) s.queue }

abbrev pub after_leaves : SeatsState → List ℕ → SeatsState
after_leaves s ps = fold after_leave s ps

abbrev pub tail_of : List AttemptId → List AttemptId
tail_of [] = []
tail_of (a ∷ queue) = queue

abbrev pub after_take : SeatsState → SeatsState
after_take s = record s { queue = tail_of s.queue }
