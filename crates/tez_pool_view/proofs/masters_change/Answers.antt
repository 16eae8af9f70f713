use Rattle.tez_pool_view.proofs.Stepping.{opened_step}
use Rattle.tez_pool_view.proofs.Leaving.{view_stopped}
use Rattle.tez_pool_view.proofs.masters_change.Goals as goal

pub returns : goal.returns
returns c = record {
  stop = λ c r cause. view_stopped c r.past cause;
  start = opened_step;
}
