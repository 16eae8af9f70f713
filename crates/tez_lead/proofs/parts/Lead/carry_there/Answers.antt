use Rattle.std.proofs.Common.{sym, subst}
use Rattle.tez_master_model.specs.State.{MasterState}
use Rattle.tez_master_model.specs.Recovery.{CanBeCarried}
use Rattle.tez_lead.proofs.Steps.{kept_after}
use Rattle.tez_lead.proofs.Taken.{carried_steps}
use Rattle.tez_lead.proofs.parts.Lead.carry_there.Goals as goal

pub invariant_of-self : goal.invariant_of-self
invariant_of-self c =
    let m : MasterState = c.self.inside.core in
    let can = subst (λ (n : MasterState). CanBeCarried n (c.args.t, c.args.failures)) (sym c.self.view_is) c.requires in
    kept_after _ _ _ _ _ c.args.t c.self.invariant c.carry.ensures (carried_steps m c.args.t c.args.failures can) c.refresh.ensures
