use Rattle.tez_work_view.proofs.Seating.{seats_placed}
use Rattle.tez_work_view.proofs.seats.attempt_is_seated.Goals as goal

pub returns : goal.returns
returns c = seats_placed
