use Rattle.std.proofs.Common.{sym, subst}
use Rattle.tez_master_model.specs.State.{MasterState}
use Rattle.tez_master_model.specs.Vertices.{AreRestorable}
use Rattle.tez_master_model.proofs.Restorable.{new_fresh}
use Rattle.tez_lead.proofs.Beginning.{new_kept}
use Rattle.tez_lead.proofs.parts.Lead.new.Goals as goal

pub invariant_of-result : goal.invariant_of-result
invariant_of-result c =
    new_kept c.args.plan c.args.conf c.args.epoch.0 c.args.pool c.in-Ok-new.core c.in-Ok.queue c.requires.within c.requires.places c.in-Ok-new.ensures.fresh c.in-Ok.ensures

pub returns-clause-limits : goal.returns-clause-limits
returns-clause-limits c =
    subst (λ (m : MasterState). AreRestorable m.conf m.vertices) (sym c.in-Ok-new.ensures.fresh) (new_fresh c.args.plan c.args.conf c.args.epoch.0)
