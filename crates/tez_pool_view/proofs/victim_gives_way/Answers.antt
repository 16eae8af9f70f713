use Rattle.tez_pool_view.proofs.Choosing.{preempt_choice, preempt_free, preempt_unqueued}
use Rattle.tez_pool_view.proofs.victim_gives_way.Goals as goal

pub returns : goal.returns
returns c = record {
  victim = preempt_choice;
  free = preempt_free;
  unqueued = preempt_unqueued;
}
