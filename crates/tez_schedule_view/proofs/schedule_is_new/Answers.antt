use Rattle.tez_schedule_view.proofs.Beginning.{first_view, start_view}
use Rattle.tez_schedule_view.proofs.schedule_is_new.Goals as goal

pub returns : goal.returns
returns c = record { first = first_view; start = start_view }
