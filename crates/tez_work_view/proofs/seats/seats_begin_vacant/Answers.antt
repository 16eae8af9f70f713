use Rattle.tez_work_view.proofs.Seating.{seats_new, seats_stopped}
use Rattle.tez_work_view.proofs.seats.seats_begin_vacant.Goals as goal

pub returns : goal.returns
returns c = record { begins = seats_new; stop = seats_stopped }
