use Rattle.std.proofs.Common.{arith}
use Rattle.tez_schedule.proofs.EdgeLemmas.{few_bytes}
use Rattle.tez_schedule.proofs.edge_bytes.EdgeBytes.set.Goals as goal

pub overflow_add-self : goal.overflow_add-self
overflow_add-self c = let few = few_bytes _ _ c.self.invariant in omega arith
