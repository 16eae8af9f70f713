use Rattle.tez_world_invariant.proofs.EndsCommit.{publish_name}
use Rattle.tez_world_invariant.proofs.commit.published_sinks_are_named.Goals as goal

pub returns : goal.returns
returns c = publish_name
