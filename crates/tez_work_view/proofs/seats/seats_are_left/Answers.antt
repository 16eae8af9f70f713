use Rattle.tez_work_view.proofs.Seating.{seats_answered, seats_left}
use Rattle.tez_work_view.proofs.seats.seats_are_left.Goals as goal

pub returns : goal.returns
returns c = record {
  asked = seats_answered;
  event = seats_left;
}
