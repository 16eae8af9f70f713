use Rattle.std.proofs.Common.{◌≡◌, ◌∙◌, ◌==◌, ◌&&◌, ◌<◌, [], length, get_or, sym, ap, arith}
use Rattle.tez_plan.specs.declared.parts.EdgeSpec.{EdgeSpec}
use Rattle.tez_plan.specs.Dag.{to, keys_of}
use Rattle.tez_meaning.specs.Value.{columns_of}
use Rattle.tez_meaning.specs.Known.{is_on_side, is_ahead}
use Rattle.tez_meaning.proofs.Loops.{passed, told_at}
use Rattle.tez_meaning.proofs.ReadLemmas.{first_kept}
use Rattle.tez_meaning.proofs.reads.columns_ahead.Goals as goal

pub returns-then-leads_ahead : goal.returns-then-leads_ahead
returns-then-leads_ahead c =
    let p = c.args.plan.now in
    let x = c.index-edges-e.result in
    let low : c.loop-e.e < length p.edges = omega (arith, c.loop-e-test.true, ap length c.edges-edges.ensures) in
    let is : x ≡ get_or p.edges c.loop-e.e x = c.index-edges-e.is ∙ ap (λ es. get_or es c.loop-e.e x) c.edges-edges.ensures in
    let asked : is_ahead p c.args.v.0 c.args.head.now c.args.left x ≡ c.leads_ahead.result =
    ap (λ n. (n == c.args.v.0) && is_on_side c.args.head.now c.args.left x) (sym (c.ends.ensures.target ∙ told_at (to p) 0 p.edges c.loop-e.e x low is)) ∙ sym c.leads_ahead.ensures in
    let columns : c.new.result ≡ keys_of x = c.new.ensures ∙ c.in_ok-from_slice.ensures.items ∙ c.keys.ensures in
    columns ∙ sym (ap columns_of (first_kept (is_ahead p c.args.v.0 c.args.head.now c.args.left) p.edges c.loop-e.e x low is c.loop-e.invariant (asked ∙ c.if-leads_ahead.true)))

pub loop-e-preserved : goal.loop-e-preserved
loop-e-preserved c =
    let p = c.args.plan.now in
    let x = c.index-edges-e.result in
    let low : c.loop-e.e < length p.edges = omega (arith, c.loop-e-test.true, ap length c.edges-edges.ensures) in
    let is : x ≡ get_or p.edges c.loop-e.e x = c.index-edges-e.is ∙ ap (λ es. get_or es c.loop-e.e x) c.edges-edges.ensures in
    let asked : is_ahead p c.args.v.0 c.args.head.now c.args.left x ≡ c.leads_ahead.result =
    ap (λ n. (n == c.args.v.0) && is_on_side c.args.head.now c.args.left x) (sym (c.ends.ensures.target ∙ told_at (to p) 0 p.edges c.loop-e.e x low is)) ∙ sym c.leads_ahead.ensures in
    sym (passed {Y = EdgeSpec} (λ es. es) (is_ahead p c.args.v.0 c.args.head.now c.args.left) p.edges [] [] c.loop-e.e x low is (asked ∙ c.if-leads_ahead.false) (sym c.loop-e.invariant))
