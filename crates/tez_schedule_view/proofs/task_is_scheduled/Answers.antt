use Rattle.tez_history.specs.Derived.{next_attempt}
use Rattle.tez_schedule_view.proofs.Changing.{queued_view}
use Rattle.tez_schedule_view.proofs.Staying.{again_view}
use Rattle.tez_schedule_view.proofs.task_is_scheduled.Goals as goal

pub returns : goal.returns
returns c = record {
  event = λ g c past t. queued_view g c past (next_attempt past t);
  queued = queued_view;
  again = again_view;
}
