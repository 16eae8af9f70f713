use Rattle.tez_schedule_view.proofs.Queueing.{next_queue_same}
use Rattle.tez_schedule_view.proofs.Answering.{next_configure_same}
use Rattle.tez_schedule_view.proofs.schedule_chooses.Goals as goal

pub returns : goal.returns
returns c = record { configure = next_configure_same; queue = next_queue_same }
