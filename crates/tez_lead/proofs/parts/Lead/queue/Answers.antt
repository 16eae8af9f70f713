use Rattle.tez_lead.proofs.Steps.{kept_after, queue_steps}
use Rattle.tez_lead.proofs.parts.Lead.queue.Goals as goal

pub invariant_of-self : goal.invariant_of-self
invariant_of-self c = kept_after _ _ _ _ _ c.args.t c.self.invariant c.queue.ensures (queue_steps _ c.args.t) c.refresh.ensures
