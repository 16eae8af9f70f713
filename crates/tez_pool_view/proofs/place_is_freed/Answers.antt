use Rattle.tez_pool_view.proofs.Stepping.{preempted_step, failed_step, done_step}
use Rattle.tez_pool_view.proofs.place_is_freed.Goals as goal

pub returns : goal.returns
returns c = record {
  preempt = preempted_step;
  fail = failed_step;
  report = done_step;
}
