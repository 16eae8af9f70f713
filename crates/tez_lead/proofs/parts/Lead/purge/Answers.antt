use Rattle.tez_lead.proofs.Steps.{left_after, purge_leaves}
use Rattle.tez_lead.proofs.parts.Lead.purge.Goals as goal

pub invariant_of-self : goal.invariant_of-self
invariant_of-self c = left_after _ _ _ _ c.self.invariant c.purge.ensures (purge_leaves _)
