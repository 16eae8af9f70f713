use Rattle.tez_schedule_view.proofs.ByEvent.{fetched_view, error_view}
use Rattle.tez_schedule_view.proofs.inputs_are_fetched.Goals as goal

pub returns : goal.returns
returns c = record { fetched = fetched_view; read_error = error_view }
