use Rattle.std.proofs.Common.{◌<◌, length, ap, ◌∙◌, sym, refl, slice_set, arith}
use Rattle.tez_inflight.specs.Given.{withdrawn}
use Rattle.tez_inflight.proofs.QueueLemmas.{given_leave, transported, read_seat, state_left, state_past}
use Rattle.tez_inflight.proofs.seats.Seats.leave_at.Goals as goal

pub invariant_of-self : goal.invariant_of-self
invariant_of-self c =
    let l : c.args.place < length c.self.inside.seats.items = omega arith in
    let r = read_seat c.self.inside.seats.items c.args.place c.index.result.now l c.index.ensures in
    transported _ _ _ _ _ _ _ _
    (c.set_seat.ensures ∙ ap (slice_set c.self.inside.seats.items c.args.place) c.vacant.ensures)
    (c.withdraw.ensures.items ∙ ap (λ d. withdrawn d c.self.inside.orders.items) (sym r))
    refl refl
    (given_leave c.self.inside.seats.items c.self.inside.orders.items _ _ _ _ c.args.place c.self.invariant l c.withdraw.ensures.len c.withdraw.ensures.capacity)

pub returns-then-place-len : goal.returns-then-place-len
returns-then-place-len c =
    let l : c.args.place < length c.self.inside.seats.items = omega arith in
    let r = read_seat c.self.inside.seats.items c.args.place c.index.result.now l c.index.ensures in
    state_left c.self.inside.seats.items _ c.self.inside.orders.items _ c.args.place c.index.result.now c.args.self.now c.self.view_is r
    (c.set_seat.ensures ∙ ap (slice_set c.self.inside.seats.items c.args.place) c.vacant.ensures) c.withdraw.ensures.items

pub returns-else-place-len : goal.returns-else-place-len
returns-else-place-len c = rw (← c.self.view_is) (state_past _ c.args.place (omega arith))
