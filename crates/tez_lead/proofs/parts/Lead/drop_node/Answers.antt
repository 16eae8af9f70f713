use Rattle.tez_lead.proofs.Steps.{left_after, drop_leaves}
use Rattle.tez_lead.proofs.parts.Lead.drop_node.Goals as goal

pub invariant_of-self : goal.invariant_of-self
invariant_of-self c = left_after _ _ _ _ c.self.invariant c.drop_node.ensures (drop_leaves _ c.args.slot)
