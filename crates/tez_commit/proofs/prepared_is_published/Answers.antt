use Rattle.tez_commit.proofs.Merging.{published_last}
use Rattle.tez_commit.proofs.prepared_is_published.Goals as goal

pub returns : goal.returns
returns c = published_last
