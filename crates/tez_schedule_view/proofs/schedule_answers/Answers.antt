use Rattle.tez_schedule_view.proofs.Seeing.{seen_same}
use Rattle.tez_schedule_view.proofs.Queueing.{may_queue_same}
use Rattle.tez_schedule_view.proofs.Answering.{config_same, configures_told, are_done_same, progress_same}
use Rattle.tez_schedule_view.proofs.schedule_answers.Goals as goal

pub returns : goal.returns
returns c = record {
  seen = seen_same;
  config = config_same;
  configures = configures_told;
  queued = may_queue_same;
  progress = progress_same;
  done = are_done_same;
}
