use Rattle.tez_lead.proofs.Steps.{left_after, asked_leaves}
use Rattle.tez_lead.proofs.parts.Lead.asked.Goals as goal

pub invariant_of-self : goal.invariant_of-self
invariant_of-self c = left_after _ _ _ _ c.self.invariant c.asked.ensures (asked_leaves _ c.args.v c.args.there)
