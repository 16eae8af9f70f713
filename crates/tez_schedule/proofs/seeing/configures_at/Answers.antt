use Rattle.std.proofs.Common.{ap, sym, ◌∙◌}
use Rattle.std.specs.Option.{option_and_then}
use Rattle.tez_schedule.specs.Table.{configures_by}
use Rattle.tez_schedule.proofs.SeenLemmas.{laid_out_at, can_at}
use Rattle.tez_schedule.proofs.ScheduleLemmas.{read, past}
use Rattle.tez_schedule.proofs.seeing.configures_at.Goals as goal

pub configures-requires : goal.configures-requires
configures-requires c =
    let l = c.in-Some.ensures.lookup in
    laid_out_at c.args.vertices.now c.args.v.0 c.in-Some.x.now c.requires (read c.args.vertices.now c.args.v.0 c.in-Some.x.now l.3.0 l.1)

pub returns-in-Some-clause-value : goal.returns-in-Some-clause-value
returns-in-Some-clause-value c =
    let l = c.in-Some.ensures.lookup in
    c.configures.ensures.value ∙ sym (ap (option_and_then (configures_by c.args.vertices.now c.args.edges.now)) (read c.args.vertices.now c.args.v.0 c.in-Some.x.now l.3.0 l.1))

pub returns-in-Some-clause-fits : goal.returns-in-Some-clause-fits
returns-in-Some-clause-fits c =
    let l = c.in-Some.ensures.lookup in
    can_at c.configures.result c.args.vertices.now c.args.v.0 c.in-Some.x.now (read c.args.vertices.now c.args.v.0 c.in-Some.x.now l.3.0 l.1) c.configures.ensures.fits

pub returns-in-None-clause-value : goal.returns-in-None-clause-value
returns-in-None-clause-value c =
    let l = c.in-None.ensures.lookup in
    sym (ap (option_and_then (configures_by c.args.vertices.now c.args.edges.now)) (past c.args.vertices.now c.args.v.0 l.3))
