use Rattle.tez_master_view.proofs.EachEvent.{event_settles}
use Rattle.tez_master_view.proofs.settling.events_settle.Goals as goal

pub returns : goal.returns
returns c = event_settles
