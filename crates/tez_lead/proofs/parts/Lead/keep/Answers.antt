use Rattle.std.proofs.Common.{sym, subst}
use Rattle.tez_ids.specs.declared.AttemptId.{AttemptId}
use Rattle.tez_master_model.specs.State.{MasterState}
use Rattle.tez_master_model.specs.Recovery.{kept, CanBeKept}
use Rattle.tez_lead.proofs.Steps.{Steps, kept_after}
use Rattle.tez_lead.proofs.Taken.{kept_steps}
use Rattle.tez_lead.proofs.parts.Lead.keep.Goals as goal

pub invariant_of-self : goal.invariant_of-self
invariant_of-self c =
    let m : MasterState = c.self.inside.core in
    let k = c.args.k.now in
    let can = subst (λ (n : MasterState). CanBeKept n k) (sym c.self.view_is) c.requires in
    let steps = subst (λ (a : AttemptId). Steps m (kept m k) a.task) (sym c.attempt.ensures) (kept_steps m k can) in
    kept_after _ _ _ _ _ c.attempt.result.task c.self.invariant c.keep.ensures steps c.refresh.ensures
