use Rattle.tez_world_invariant.proofs.EndsCommit.{sums_noted, start_holds}
use Rattle.tez_world_invariant.proofs.commit.commit_has_the_sums.Goals as goal

pub returns : goal.returns
returns c = record { sums = sums_noted; holds = start_holds }
