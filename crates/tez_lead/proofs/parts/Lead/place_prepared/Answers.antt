use Rattle.std.proofs.Common.{◌≡◌, true, sym, subst}
use Rattle.tez_master_model.specs.State.{MasterState}
use Rattle.tez_master_model.specs.Read.{is_queued}
use Rattle.tez_lead.proofs.Steps.{kept_after, place_steps, queued_there}
use Rattle.tez_lead.proofs.parts.Lead.place_prepared.Goals as goal

pub invariant_of-self : goal.invariant_of-self
invariant_of-self c =
    let m : MasterState = c.self.inside.core in
    let queued : is_queued m c.args.a ≡ true = subst (λ (s : MasterState). is_queued s c.args.a ≡ true) (sym c.self.view_is) c.requires.queued in
    kept_after m _ _ _ _ c.args.a.task c.self.invariant c.place_prepared.ensures (place_steps m c.args.a c.args.place (queued_there m c.args.a c.self.invariant.fit.vertices queued)) c.refresh.ensures
