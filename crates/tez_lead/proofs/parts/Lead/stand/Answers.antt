use Rattle.std.proofs.Common.{◌∙◌, ap, sym, subst}
use Rattle.tez_master_model.specs.State.{MasterState}
use Rattle.tez_schedule.specs.Table.{can_configure}
use Rattle.tez_master_model.specs.Recovery.{config_in}
use Rattle.tez_lead.specs.Kept.{IsKept}
use Rattle.tez_lead.proofs.Configuring.{config_kept}
use Rattle.tez_lead.proofs.parts.Lead.stand.Goals as goal

pub invariant_of-self-2 : goal.invariant_of-self-2
invariant_of-self-2 c =
    let m : MasterState = c.self.inside.core in
    let v = c.args.x.0.0 in
    let s = config_in c.args.x in
    subst (λ (n : MasterState). IsKept n c.self.inside.queue) (sym c.in_ok-stand.ensures.stood)
    (config_kept m v s c.self.inside.queue (ap (λ (n : MasterState). can_configure n.schedule v s) c.self.view_is ∙ c.requires.tasks) c.self.invariant)
