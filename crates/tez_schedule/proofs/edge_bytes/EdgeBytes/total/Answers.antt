use Rattle.tez_schedule.proofs.EdgeLemmas.{few_bytes}
use Rattle.tez_schedule.proofs.edge_bytes.EdgeBytes.total.Goals as goal

pub returns-clause-few : goal.returns-clause-few
returns-clause-few c = few_bytes _ _ c.self.invariant
