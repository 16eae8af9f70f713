use Rattle.tez_lead.proofs.Steps.{kept_after, withdraw_steps}
use Rattle.tez_lead.proofs.parts.Lead.withdraw.Goals as goal

pub invariant_of-self : goal.invariant_of-self
invariant_of-self c = kept_after _ _ _ _ _ c.args.w.task c.self.invariant c.withdraw.ensures (withdraw_steps _ c.args.w) c.refresh.ensures
