use Rattle.tez_lead.proofs.Steps.{left_after, finish_leaves}
use Rattle.tez_lead.proofs.parts.Lead.finish.Goals as goal

pub invariant_of-self : goal.invariant_of-self
invariant_of-self c = left_after _ _ _ _ c.self.invariant c.finish.ensures (finish_leaves _)
