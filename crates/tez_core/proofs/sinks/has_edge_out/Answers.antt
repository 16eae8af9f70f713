use Rattle.std.proofs.Common.{◌≡◌, ◌<◌, ◌+◌, ◌==◌, ◌∙◌, ap, sym, suc, arith, true, false, take, length}
use Rattle.std.specs.List.{list_any}
use Rattle.tez_plan.specs.Dag.{from, source_of}
use Rattle.tez_core.proofs.Firsts.{any_more, any_at}
use Rattle.tez_core.proofs.sinks.has_edge_out.Goals as goal

pub returns-then-eq : goal.returns-then-eq
returns-then-eq c =
    let p = c.args.p.now in
    let v = c.args.v.0 in
    let below : c.loop-e.e < length p.edges = omega (arith, c.edge_count-e-end.ensures.count, c.loop-e-test.true) in
    let passes : (source_of p c.loop-e.e == v) ≡ true = ap (λ n. n == v) (sym c.ends.ensures.source) ∙ sym c.eq.ensures ∙ c.if-eq.true in
    sym (any_at (from p) v p.edges c.loop-e.e below passes)

pub loop-e-preserved : goal.loop-e-preserved
loop-e-preserved c =
    let p = c.args.p.now in
    let v = c.args.v.0 in
    let below : c.loop-e.e < length p.edges = omega (arith, c.edge_count-e-end.ensures.count, c.loop-e-test.true) in
    let fails : (source_of p c.loop-e.e == v) ≡ false = ap (λ n. n == v) (sym c.ends.ensures.source) ∙ sym c.eq.ensures ∙ c.if-eq.false in
    let next : c.loop-e.e + 1 ≡ suc c.loop-e.e = omega arith in
    ap (λ n. list_any (λ e. from p e == v) (take n p.edges)) next ∙ any_more (from p) v p.edges c.loop-e.e below c.loop-e.invariant fails
