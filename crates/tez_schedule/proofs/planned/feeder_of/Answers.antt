use Rattle.std.proofs.Common.{◌≡◌, ◌<◌, ◌∙◌, ap, sym, arith, Some, length}
use Rattle.std.specs.Option.{option_map}
use Rattle.tez_plan.specs.Dag.{vertex}
use Rattle.tez_schedule.proofs.PlanLemmas.{feeder_found, feeder_none, passing_no, feeds_one}
use Rattle.tez_schedule.proofs.planned.feeder_of.Goals as goal

pub returns-then-feeds_one_to_one : goal.returns-then-feeds_one_to_one
returns-then-feeds_one_to_one c =
    let g = c.args.p.now in
    let inside : c.loop-e.e < length g.edges = omega (arith, c.edge_count-e-end.ensures.count, c.loop-e-test.true) in
    let found = feeder_found g c.args.v.0 c.loop-e.e inside c.loop-e.invariant (sym c.feeds_one_to_one.ensures ∙ c.if-feeds_one_to_one.true) in
    ap (λ n. Some (vertex n)) c.ends.ensures.source ∙ sym (ap (option_map vertex) found)

pub loop-e-preserved : goal.loop-e-preserved
loop-e-preserved c =
    let g = c.args.p.now in
    let inside : c.loop-e.e < length g.edges = omega (arith, c.edge_count-e-end.ensures.count, c.loop-e-test.true) in
    passing_no (feeds_one g c.args.v.0) g.edges c.loop-e.e inside (sym c.feeds_one_to_one.ensures ∙ c.if-feeds_one_to_one.false) ∙ c.loop-e.invariant

pub returns : goal.returns
returns c =
    let g = c.args.p.now in
    let all : c.loop-e.e ≡ length g.edges = omega (arith, c.edge_count-e-end.ensures.count, c.loop-e.auto.e-end, c.loop-e-test.false) in
    sym (ap (option_map vertex) (feeder_none g c.args.v.0 c.loop-e.e all c.loop-e.invariant))
