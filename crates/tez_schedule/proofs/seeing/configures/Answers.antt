use Rattle.std.proofs.Common.{◌≤◌, ap, sym, ◌∙◌, arith, map}
use Rattle.tez_vman.specs.Rules.{configures as configures_by}
use Rattle.tez_schedule.specs.Kept.{layout, planned_sources}
use Rattle.tez_schedule.proofs.SeenLemmas.{config_fits, can_fit}
use Rattle.tez_schedule.proofs.seeing.configures.Goals as goal

pub returns-else-is_configured-clause-fits : goal.returns-else-is_configured-clause-fits
returns-else-is_configured-clause-fits c =
    let some : 1 ≤ c.args.x.now.planned = omega (arith, c.tasks-planned.ensures.some, c.tasks-planned.ensures.planned) in
    can_fit c.configure.result c.args.x.now (sym c.is_configured.ensures ∙ c.if-is_configured.false)
    (config_fits c.args.x.now.rule c.see.result c.args.x.now.planned (planned_sources (map layout c.args.vertices.now) (layout c.args.x.now)) c.configure.result
    (c.configure.ensures ∙ ap (λ r. configures_by r c.see.result) c.manager.ensures.rule) c.see.ensures.some c.requires c.see.ensures.planned some)
