use Rattle.tez_inflight.proofs.PlaceLemmas.{found_at, none_out}
use Rattle.tez_inflight.proofs.orders_are_at_seats.Goals as goal

pub returns-clause-there : goal.returns-clause-there
returns-clause-there c = found_at

pub returns-clause-none : goal.returns-clause-none
returns-clause-none c = none_out
