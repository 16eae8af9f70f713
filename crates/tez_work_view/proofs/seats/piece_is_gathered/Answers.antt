use Rattle.tez_work_view.proofs.Seating.{seats_fetched, seats_missed}
use Rattle.tez_work_view.proofs.seats.piece_is_gathered.Goals as goal

pub returns : goal.returns
returns c = record { found = seats_fetched; missed = seats_missed }
