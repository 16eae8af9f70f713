use Rattle.std.proofs.Common.{◌≡◌, ◌<◌, ◌+◌, ◌&&◌, ◌==◌, ◌∙◌, Some, ap, sym, take, length, suc, Bool, arith}
use Rattle.std.specs.Prelude.{slice_get}
use Rattle.std.specs.List.{find}
use Rattle.std.specs.Option.{option_map}
use Rattle.tez_plan.specs.declared.parts.EdgeSpec.{EdgeSpec}
use Rattle.tez_plan.specs.Dag.{from, to, is_one_to_one}
use Rattle.tez_standing.proofs.ReadLemmas.{find_next, find_here, source_there}
use Rattle.tez_standing.proofs.rules.feeder.Goals as goal

pub returns-then-feeds : goal.returns-then-feeds
returns-then-feeds c =
    let p = c.args.p.now in
    let test : EdgeSpec → Bool = λ e. is_one_to_one e && (to p e == c.args.v.0) in
    let passes = sym c.feeds.ensures ∙ c.if-feeds.true in
    ap Some c.ends.ensures.source ∙ source_there (from p) test (slice_get p.edges c.loop-e.e) passes
    ∙ sym (ap (option_map (from p)) (find_here test p.edges c.loop-e.e c.loop-e.invariant passes))

pub loop-e-preserved : goal.loop-e-preserved
loop-e-preserved c =
    let p = c.args.p.now in
    let test : EdgeSpec → Bool = λ e. is_one_to_one e && (to p e == c.args.v.0) in
    let long = c.edge_count-e-end.ensures in
    let below = c.loop-e-test.true in
    let inside : c.loop-e.e < length p.edges = omega arith in
    let next : c.loop-e.e + 1 ≡ suc c.loop-e.e = omega arith in
    ap (λ k. find test (take k p.edges)) next ∙ find_next test p.edges c.loop-e.e inside c.loop-e.invariant (sym c.feeds.ensures ∙ c.if-feeds.false)
