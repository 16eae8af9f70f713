use Rattle.tez_world_invariant.proofs.EndsCommit.{ready_name, tasks_told, each_won, collected, ready_holds}
use Rattle.tez_world_invariant.proofs.commit.sinks_are_readied.Goals as goal

pub returns : goal.returns
returns c = record { name = ready_name; tasks = tasks_told; won = each_won; winners = collected; holds = ready_holds }
