use Rattle.tez_sinks.proofs.Commits.{publish_readied}
use Rattle.tez_sinks.proofs.commit.published_sinks_are_readied.Goals as goal

pub returns : goal.returns
returns c = publish_readied
