use Rattle.tez_sinks.proofs.Stores.{purged_store}
use Rattle.tez_sinks.proofs.commit.purges_are_right.Goals as goal

pub returns : goal.returns
returns c = purged_store
