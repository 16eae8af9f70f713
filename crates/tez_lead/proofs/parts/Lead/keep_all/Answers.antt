use Rattle.std.proofs.Common.{◌∙◌, ap, sym, subst, take}
use Rattle.tez_master_model.specs.State.{MasterState}
use Rattle.tez_master_model.specs.Recovery.{CanBeKept}
use Rattle.tez_lead.proofs.Taken.{next_kept, kept_places}
use Rattle.tez_lead.proofs.parts.Lead.keep_all.Goals as goal

pub keep-requires : goal.keep-requires
keep-requires c =
    subst (CanBeKept c.loop-k.self) (sym c.k-item.is) (next_kept c.args.kept.now c.args.self.now c.loop-k.self c.loop-k.k-index c.k-item.result c.loop-k.invariant c.loop-k-test.true c.requires)

pub returns-clause-places : goal.returns-clause-places
returns-clause-places c = ap (λ (m : MasterState). m.pool) c.loop-k.invariant ∙ kept_places (take c.loop-k.k-index c.args.kept.now) c.args.self.now
