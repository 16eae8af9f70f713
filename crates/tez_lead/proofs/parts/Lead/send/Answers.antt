use Rattle.tez_lead.proofs.Steps.{kept_after, send_steps}
use Rattle.tez_lead.proofs.parts.Lead.send.Goals as goal

pub invariant_of-self : goal.invariant_of-self
invariant_of-self c = kept_after _ _ _ _ _ c.args.a.task c.self.invariant c.send.ensures (send_steps _ c.args.a) c.refresh.ensures
