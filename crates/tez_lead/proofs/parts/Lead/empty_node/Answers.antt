use Rattle.std.proofs.Common.{◌∙◌, ap, sym, subst}
use Rattle.tez_master_model.specs.State.{MasterState}
use Rattle.tez_lead.specs.Kept.{AreVertices}
use Rattle.tez_lead.proofs.NodeLoss.{emptied_early}
use Rattle.tez_lead.proofs.parts.Lead.empty_node.Goals as goal

pub returns : goal.returns
returns c =
    let fit = subst (λ (s : MasterState). AreVertices s.plan s.vertices) c.self.view_is c.self.invariant.fit.vertices in
    let early = sym (c.is_committing.ensures ∙ ap (λ (s : MasterState). s.committing) c.self.view_is) ∙ c.if-is_committing.false in
    emptied_early c.args.self.now c.kill_on.new.self c.withdraw_on.new.self c.args.slot fit early c.kill_on.ensures.after c.withdraw_on.ensures
