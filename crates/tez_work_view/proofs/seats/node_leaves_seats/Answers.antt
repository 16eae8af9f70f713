use Rattle.tez_work_view.proofs.Seating.{seats_lost}
use Rattle.tez_work_view.proofs.seats.node_leaves_seats.Goals as goal

pub returns : goal.returns
returns c = seats_lost
