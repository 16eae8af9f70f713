use Rattle.tez_pool_view.proofs.Stepping.{other_step, answer_step}
use Rattle.tez_pool_view.proofs.pool_is_left.Goals as goal

pub returns : goal.returns
returns c = record {
  event = other_step;
  asked = answer_step;
}
