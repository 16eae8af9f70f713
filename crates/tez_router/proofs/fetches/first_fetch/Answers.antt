use Rattle.std.proofs.Common.{◌≡◌, ◌∙◌, sym, ap}
use Rattle.std.specs.Prelude.{slice_get}
use Rattle.std.specs.List.{flat_map}
use Rattle.tez_router.specs.Table.{attempt_fetches, edge_fetches}
use Rattle.tez_router.proofs.Firsts.{first_in_list, next_in_list}
use Rattle.tez_router.proofs.fetches.first_fetch.Goals as goal

pub returns-in-Some : goal.returns-in-Some
returns-in-Some c =
    let links = c.args.links.now in
    let rows = c.args.rows.now in
    let f = attempt_fetches links rows in
    let here : c.first_of_edges.result ≡ slice_get (f c.x-item.result) 0 =
    c.first_of_edges.ensures ∙ ap (λ a. slice_get (flat_map (edge_fetches links rows a) c.edges.result.now) 0) c.attempt.ensures
    ∙ ap (λ es. slice_get (flat_map (edge_fetches links rows c.x-item.result.attempt) es) 0) c.edges.ensures in
    sym (first_in_list f c.args.admitted.now c.loop-x.x-index c.x-item.result c.in-Some.fetch c.loop-x.invariant c.loop-x-test.true (ap (λ z. slice_get (f z) 0) (sym c.x-item.is) ∙ sym here ∙ c.in-Some.is))

pub loop-x-preserved : goal.loop-x-preserved
loop-x-preserved c =
    let links = c.args.links.now in
    let rows = c.args.rows.now in
    let f = attempt_fetches links rows in
    let here : c.first_of_edges.result ≡ slice_get (f c.x-item.result) 0 =
    c.first_of_edges.ensures ∙ ap (λ a. slice_get (flat_map (edge_fetches links rows a) c.edges.result.now) 0) c.attempt.ensures
    ∙ ap (λ es. slice_get (flat_map (edge_fetches links rows c.x-item.result.attempt) es) 0) c.edges.ensures in
    next_in_list f c.args.admitted.now c.loop-x.x-index c.x-item.result c.loop-x.invariant c.loop-x-test.true (ap (λ z. slice_get (f z) 0) (sym c.x-item.is) ∙ sym here ∙ c.in_default.is)
