-- What the type of a seat keeps.
--     seat_of work        the seat that some work stands for
--     IsNumbered d        each edge comes once among the parts
--     IsPartOf e parts i  the i-th part is one of edge e
use Rattle.std.specs.Prelude.{◌≡◌, ◌<◌, ℕ, ⊤, Bool, true, ◌==◌, List, map, length, slice_index_or, IsTrue}
use Rattle.tez_ids.specs.declared.EdgeId.{EdgeId}
use Rattle.tez_inflight.specs.declared.seat.Work.{Work}
use Rattle.tez_inflight.specs.declared.seat.Work.TheVariants.{Nothing, Parts, Sent}
use Rattle.tez_inflight.specs.Seats.{Seat, Vacant, Gathers, Out, Gathered, Records, numbered, numbers_differ}

abbrev pub seat_of : Work → Seat
seat_of Nothing = Vacant
seat_of (Parts a parts) = Gathers a (map numbered parts.items)
seat_of (Sent order) = Out order

abbrev pub edges_of : Gathered → List ℕ
edges_of parts = map (λ part. part.0) parts

abbrev pub IsNumbered : Seat → Type 0
IsNumbered Vacant = ⊤
IsNumbered (Gathers a parts) = IsTrue (numbers_differ (edges_of parts))
IsNumbered (Out order) = ⊤

abbrev pub is_over : EdgeId → EdgeId × Records → Bool
is_over e part = part.0.0 == e.0

pub record IsPartOf (e : EdgeId) (parts : List (EdgeId × Records)) (i : ℕ) : Type 0 where
  pub within : i < length parts
  pub over : (d : EdgeId × Records) → is_over e (slice_index_or parts i d) ≡ true
