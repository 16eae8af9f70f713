use Rattle.std.proofs.Common.{◌≡◌, Some, None, ◌∷◌, ◌++◌, [], ap, ◌∙◌, slice_set}
use Rattle.tez_inflight.specs.Seats.{SeatsState, seat_at, gatherer, order_out}
use Rattle.tez_inflight.proofs.QueueLemmas.{room_for, given_send, transported}
use Rattle.tez_inflight.proofs.seats.Seats.put_out.Goals as goal

pub push_back_reserved-requires : goal.push_back_reserved-requires
push_back_reserved-requires c =
    let e : c.self.inside.seats.items ≡ c.args.self.now.seats = ap (λ (s : SeatsState). s.seats) c.self.view_is in
    let w : gatherer (seat_at c.self.inside.seats.items c.args.place) ≡ Some c.args.kept.attempt = rw e c.requires.waits in
    room_for c.self.inside.seats.items c.self.inside.orders.items _ _ c.args.place c.args.kept.attempt c.self.invariant w

pub invariant_of-self : goal.invariant_of-self
invariant_of-self c =
    let e : c.self.inside.seats.items ≡ c.args.self.now.seats = ap (λ (s : SeatsState). s.seats) c.self.view_is in
    let w : gatherer (seat_at c.self.inside.seats.items c.args.place) ≡ Some c.args.kept.attempt = rw e c.requires.waits in
    let n : order_out c.self.inside.seats.items c.args.kept.attempt ≡ None = rw e c.requires.alone in
    transported _ _ _ _ _ _ _ _
    (c.set_seat.ensures ∙ ap (slice_set c.self.inside.seats.items c.args.place) c.out.ensures)
    (c.push_back_reserved.ensures.items ∙ ap (λ x. c.self.inside.orders.items ++ x ∷ []) c.requires.same)
    c.push_back_reserved.ensures.len c.push_back_reserved.ensures.capacity
    (given_send c.self.inside.seats.items c.self.inside.orders.items _ _ c.args.place c.args.kept c.self.invariant w n)
