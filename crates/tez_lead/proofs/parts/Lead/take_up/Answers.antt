use Rattle.tez_lead.proofs.Steps.{left_after, taken_leaves}
use Rattle.tez_lead.proofs.parts.Lead.take_up.Goals as goal

pub invariant_of-self : goal.invariant_of-self
invariant_of-self c = left_after _ _ _ _ c.self.invariant c.take_up.ensures (taken_leaves _ c.args.recorded)
