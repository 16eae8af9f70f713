use Rattle.std.proofs.Common.{◌<◌, ◌∙◌, ap, sym, subst, arith, take}
use Rattle.tez_master_model.specs.State.{MasterState}
use Rattle.tez_master_model.specs.Vertices.{AreRestorable}
use Rattle.tez_lead.proofs.Taken.{next_stands, stood_places, stood_limits}
use Rattle.tez_lead.proofs.parts.Lead.stand_all.Goals as goal

pub stand-requires : goal.stand-requires
stand-requires c =
    next_stands c.args.configured.now c.args.self.now c.loop-x.self c.loop-x.x-index (record { 0 = 0 }, 0, 0) c.loop-x.invariant c.loop-x-test.true c.requires.can

pub returns-in_err-stand-clause-places : goal.returns-in_err-stand-clause-places
returns-in_err-stand-clause-places c =
    ap (λ (m : MasterState). m.pool) (c.in_err-stand.ensures.refused ∙ c.loop-x.invariant) ∙ stood_places (take c.loop-x.x-index c.args.configured.now) c.args.self.now

pub returns-clause-limits : goal.returns-clause-limits
returns-clause-limits c =
    let limit = c.max_failed-some.ensures.limit ∙ ap (λ (m : MasterState). m.conf.max_failed) c.self.view_is in
    let some : 0 < c.args.self.now.conf.max_failed = omega (arith, limit, c.max_failed-some.ensures.some) in
    subst (λ (m : MasterState). AreRestorable m.conf m.vertices) (sym c.loop-x.invariant) (stood_limits (take c.loop-x.x-index c.args.configured.now) c.args.self.now some c.requires.limits)

pub returns-clause-places : goal.returns-clause-places
returns-clause-places c = ap (λ (m : MasterState). m.pool) c.loop-x.invariant ∙ stood_places (take c.loop-x.x-index c.args.configured.now) c.args.self.now
