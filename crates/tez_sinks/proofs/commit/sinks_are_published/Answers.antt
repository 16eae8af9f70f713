use Rattle.tez_sinks.proofs.Commits.{publish_named, publish_found, publish_right}
use Rattle.tez_sinks.proofs.commit.sinks_are_published.Goals as goal

pub returns-clause-named : goal.returns-clause-named
returns-clause-named c = publish_named

pub returns-clause-readied : goal.returns-clause-readied
returns-clause-readied c = publish_found

pub returns-clause-store : goal.returns-clause-store
returns-clause-store c = publish_right
