use Rattle.tez_schedule_view.proofs.Losing.{lost_view, late_view}
use Rattle.tez_schedule_view.proofs.node_is_lost.Goals as goal

pub returns : goal.returns
returns c = record { lost = lost_view; late = late_view }
