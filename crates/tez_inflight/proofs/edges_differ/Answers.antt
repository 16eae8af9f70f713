use Rattle.tez_inflight.proofs.EdgeLemmas.{numbers_of_tested}
use Rattle.tez_inflight.proofs.edges_differ.Goals as goal

pub returns : goal.returns
returns c = λ test edges. numbers_of_tested test 0 edges
