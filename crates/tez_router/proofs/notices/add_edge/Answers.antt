use Rattle.std.proofs.Common.{◌∙◌, ◌++◌, sym, ap}
use Rattle.std.proofs.lemmas.Bool.{ltb-false}
use Rattle.std.specs.Prelude.{slice_get}
use Rattle.tez_lists.proofs.Flat.{append-nil}
use Rattle.tez_router.specs.Table.{notices_over}
use Rattle.tez_router.proofs.Ranges.{get_past}
use Rattle.tez_router.proofs.notices.add_edge.Goals as goal

pub returns-in-None : goal.returns-in-None
returns-in-None c =
    let past = get_past c.args.links.now c.edge.result.0 (ltb-false _ _ (sym c.in-None.ensures.lookup.0)) in
    sym (append-nil c.args.found.now.items)
    ∙ ap (λ o. c.args.found.now.items ++ notices_over o c.args.loss.task c.args.loss.lost c.args.attempt c.args.inputs.now) (sym (ap (slice_get c.args.links.now) (sym c.edge.ensures) ∙ past))
