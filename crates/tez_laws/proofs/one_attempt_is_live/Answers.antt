use Rattle.tez_laws.proofs.OneLive.{one_live}
use Rattle.tez_laws.proofs.Joined.{live_of_task}
use Rattle.tez_laws.proofs.one_attempt_is_live.Goals as goal

pub returns : goal.returns
returns c = record {
  one = one_live;
  of_task = live_of_task;
}
