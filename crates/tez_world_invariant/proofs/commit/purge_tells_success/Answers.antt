use Rattle.tez_world_invariant.proofs.EndsCommit.{purged_succeeds}
use Rattle.tez_world_invariant.proofs.commit.purge_tells_success.Goals as goal

pub returns : goal.returns
returns c = purged_succeeds
