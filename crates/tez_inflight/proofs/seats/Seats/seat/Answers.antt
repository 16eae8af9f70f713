use Rattle.std.proofs.Common.{◌≡◌, ◌∙◌, ap, refl, None, slice_set, arith}
use Rattle.tez_inflight.specs.Seats.{SeatsState, seat_at, order_of}
use Rattle.tez_inflight.proofs.QueueLemmas.{given_seat, transported}
use Rattle.tez_inflight.proofs.seats.Seats.seat.Goals as goal

pub invariant_of-self-2 : goal.invariant_of-self-2
invariant_of-self-2 c =
    let e : c.self.inside.seats.items ≡ c.args.self.now.seats = ap (λ (s : SeatsState). s.seats) c.self.view_is in
    let n : order_of (seat_at c.self.inside.seats.items c.args.place) ≡ None = rw e c.requires.free in
    transported _ _ _ _ _ _ _ _
    (c.set_seat.ensures ∙ ap (slice_set c.self.inside.seats.items c.args.place) c.in_ok-seat.ensures)
    refl refl refl
    (given_seat c.self.inside.seats.items c.self.inside.orders.items _ _ _ _ _ c.args.place _ _ c.self.invariant c.reserve.ensures.items (omega (arith, c.in_ok-reserve.ensures.ok)) n)
