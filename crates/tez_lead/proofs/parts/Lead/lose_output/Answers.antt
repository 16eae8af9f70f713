use Rattle.tez_lead.proofs.Steps.{left_after, lose_leaves}
use Rattle.tez_lead.proofs.parts.Lead.lose_output.Goals as goal

pub invariant_of-self : goal.invariant_of-self
invariant_of-self c = left_after _ _ _ _ c.self.invariant c.lose_output.ensures (lose_leaves _ c.args.t)
