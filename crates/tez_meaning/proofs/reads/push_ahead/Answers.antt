use Rattle.std.proofs.Common.{◌≡◌, ◌∙◌, ◌==◌, ◌&&◌, ◌<◌, ◌++◌, length, flat_map, get_or, sym, ap, arith}
use Rattle.tez_plan.specs.declared.parts.EdgeSpec.{EdgeSpec}
use Rattle.tez_plan.specs.Dag.{from, to}
use Rattle.tez_meaning.specs.Known.{known_in, is_on_side, is_ahead}
use Rattle.tez_meaning.proofs.Loops.{added, passed, told_at}
use Rattle.tez_meaning.proofs.reads.push_ahead.Goals.{then-leads_ahead+in_ok-append_known, else-leads_ahead}
use Rattle.tez_meaning.proofs.reads.push_ahead.Goals as goal

pub loop-e-preserved : goal.loop-e-preserved
loop-e-preserved c =
    let p = c.args.plan.now in
    let x = c.index-edges-e.result in
    let bag = λ (e : EdgeSpec). known_in c.args.values.now (from p e) in
    let low : c.loop-e.e < length p.edges = omega (arith, c.loop-e-test.true, ap length c.edges-edges.ensures) in
    let is : x ≡ get_or p.edges c.loop-e.e x = c.index-edges-e.is ∙ ap (λ es. get_or es c.loop-e.e x) c.edges-edges.ensures in
    let asked : is_ahead p c.args.v.0 c.args.head.now c.args.left x ≡ c.leads_ahead.result =
    ap (λ n. (n == c.args.v.0) && is_on_side c.args.head.now c.args.left x) (sym (c.ends.ensures.target ∙ told_at (to p) 0 p.edges c.loop-e.e x low is)) ∙ sym c.leads_ahead.ensures in
    elim c.if-leads_ahead.branch [
      | then-leads_ahead+in_ok-append_known w ↦
          w.records-is
          ∙ added bag (is_ahead p c.args.v.0 c.args.head.now c.args.left) p.edges c.args.records.now c.loop-e.records _ c.loop-e.e x low is (asked ∙ w.if-leads_ahead.true) c.loop-e.invariant
          (w.in_ok-append_known.ensures ∙ ap (λ n. c.loop-e.records ++ known_in c.args.values.now n) (c.ends.ensures.source ∙ told_at (from p) 0 p.edges c.loop-e.e x low is))
      | else-leads_ahead w ↦
          w.records-is
          ∙ passed (flat_map bag) (is_ahead p c.args.v.0 c.args.head.now c.args.left) p.edges c.args.records.now c.loop-e.records c.loop-e.e x low is (asked ∙ w.if-leads_ahead.false) c.loop-e.invariant
    ]
