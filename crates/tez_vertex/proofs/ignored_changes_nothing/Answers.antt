use Rattle.tez_vertex.proofs.EventLemmas.{unchanged}
use Rattle.tez_vertex.proofs.ignored_changes_nothing.Goals as goal

pub returns : goal.returns
returns c = unchanged
