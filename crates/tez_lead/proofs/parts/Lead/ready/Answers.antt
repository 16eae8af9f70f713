use Rattle.tez_lead.proofs.Steps.{left_after, ready_leaves}
use Rattle.tez_lead.proofs.parts.Lead.ready.Goals as goal

pub invariant_of-self : goal.invariant_of-self
invariant_of-self c = left_after _ _ _ _ c.self.invariant c.ready.ensures (ready_leaves _ c.args.v)
