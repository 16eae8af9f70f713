use Rattle.tez_work_view.proofs.Seating.{seats_sent}
use Rattle.tez_work_view.proofs.seats.order_is_at_seat.Goals as goal

pub returns : goal.returns
returns c = seats_sent
