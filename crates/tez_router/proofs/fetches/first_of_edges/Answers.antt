use Rattle.std.proofs.Common.{◌∙◌, sym, ap}
use Rattle.std.specs.Prelude.{slice_get}
use Rattle.tez_router.specs.Table.{edge_fetches}
use Rattle.tez_router.proofs.Firsts.{first_in_list, next_in_list}
use Rattle.tez_router.proofs.fetches.first_of_edges.Goals as goal

pub returns-in-Some : goal.returns-in-Some
returns-in-Some c =
    let f = edge_fetches c.args.links.now c.args.rows.now c.args.attempt in
    sym (first_in_list f c.args.edges.now c.loop-inputs.inputs-index c.inputs-item.result c.in-Some.fetch c.loop-inputs.invariant c.loop-inputs-test.true
    (ap (λ z. slice_get (f z) 0) (sym c.inputs-item.is) ∙ sym c.first_by_edge.ensures ∙ c.in-Some.is))

pub loop-inputs-preserved : goal.loop-inputs-preserved
loop-inputs-preserved c =
    let f = edge_fetches c.args.links.now c.args.rows.now c.args.attempt in
    next_in_list f c.args.edges.now c.loop-inputs.inputs-index c.inputs-item.result c.loop-inputs.invariant c.loop-inputs-test.true
    (ap (λ z. slice_get (f z) 0) (sym c.inputs-item.is) ∙ sym c.first_by_edge.ensures ∙ c.in_default.is)
