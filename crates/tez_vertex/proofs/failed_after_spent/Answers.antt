use Rattle.tez_vertex.proofs.EventLemmas.{failed_after}
use Rattle.tez_vertex.proofs.failed_after_spent.Goals as goal

pub returns : goal.returns
returns c = failed_after
