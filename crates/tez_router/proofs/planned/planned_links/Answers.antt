use Rattle.std.proofs.Common.{◌∙◌, sym, ap, subst, arith, length}
use Rattle.std.proofs.lemmas.List.FromFn.{length-map-range_with_len}
use Rattle.tez_router.specs.Planned.{planned_link}
use Rattle.tez_router.specs.Edges.{AreNumberedFrom}
use Rattle.tez_router.proofs.Ranges.{map_range}
use Rattle.tez_router.proofs.Edges.{planned_numbered}
use Rattle.tez_router.proofs.planned.planned_links.Goals as goal

pub loop-e-preserved : goal.loop-e-preserved
loop-e-preserved c =
    map_range (planned_link c.args.p.now) c.loop-e.e c.loop-e.links.items c.push.new.self.items c.planned_link.result c.loop-e.invariant c.planned_link.ensures c.in_ok-push.ensures.items

pub returns-clause-few : goal.returns-clause-few
returns-clause-few c =
    let long = ap length c.loop-e.invariant ∙ length-map-range_with_len (planned_link c.args.p.now) 0 c.loop-e.e in
    let few = c.edge_count-e-end.ensures.few in
    let inside = c.loop-e.auto.e-end in
    omega arith

pub returns-clause-numbered : goal.returns-clause-numbered
returns-clause-numbered c = subst (AreNumberedFrom 0) (sym c.loop-e.invariant) (planned_numbered c.args.p.now 0 c.loop-e.e)
