use Rattle.std.proofs.Common.{[]}
use Rattle.tez_router.specs.State.{EdgeInputs}
use Rattle.tez_router.proofs.Edges.{edge_found, edge_nowhere}
use Rattle.tez_router.proofs.admitted.find_edge.Goals as goal

pub returns-then-is_edge_at-clause-some : goal.returns-then-is_edge_at-clause-some
returns-then-is_edge_at-clause-some c =
    let d : EdgeInputs = record { edge = 0; fetched = [] } in
    let there = c.is_edge_at.ensures.yes c.if-is_edge_at.true d in
    edge_found c.args.edges.now c.args.edge.0 c.edge_place-at.result d c.requires c.edge_place-at.ensures.place there.0 there.1

pub returns-else-is_edge_at-clause-none : goal.returns-else-is_edge_at-clause-none
returns-else-is_edge_at-clause-none c = edge_nowhere c.args.edges.now c.args.edge.0 c.edge_place-at.result c.requires c.edge_place-at.ensures.place (c.is_edge_at.ensures.no c.if-is_edge_at.false)
