use Rattle.tez_work_view.proofs.Seating.{seats_preempted, seats_failed, seats_reported}
use Rattle.tez_work_view.proofs.seats.attempts_leave_seats.Goals as goal

pub returns : goal.returns
returns c = record { preempt = seats_preempted; fail = seats_failed; report = seats_reported }
