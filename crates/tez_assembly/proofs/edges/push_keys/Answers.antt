use Rattle.std.proofs.Common.{◌≡◌, ◌∙◌, ◌==◌, ◌&&◌, ◌<◌, ◌++◌, [], ◌∷◌, length, map, get_or, sym, ap, ap₂, arith, List, ℕ}
use Rattle.tez_ids.specs.declared.VertexId.{VertexId}
use Rattle.tez_plan.specs.declared.parts.EdgeSpec.{EdgeSpec}
use Rattle.tez_plan.specs.Dag.{from, to, vertex}
use Rattle.tez_meaning.specs.Known.{is_on_side, is_ahead}
use Rattle.tez_meaning.proofs.Loops.{pushed, passed, told_at}
use Rattle.tez_assembly.specs.Order.{key_at}
use Rattle.tez_assembly.proofs.edges.push_keys.Goals.{then-leads_ahead+in_ok-columns_of+in_ok-push, else-leads_ahead}
use Rattle.tez_assembly.proofs.edges.push_keys.Goals as goal

pub loop-e-preserved : goal.loop-e-preserved
loop-e-preserved c =
    let p = c.args.plan.now in
    let x = c.index-edges-e.result in
    let low : c.loop-e.e < length p.edges = omega (arith, c.loop-e-test.true, ap length c.edges-edges.ensures) in
    let is : x ≡ get_or p.edges c.loop-e.e x = c.index-edges-e.is ∙ ap (λ es. get_or es c.loop-e.e x) c.edges-edges.ensures in
    let asked : is_ahead p c.args.v.0 c.args.head.now c.args.left x ≡ c.leads_ahead.result =
    ap (λ n. (n == c.args.v.0) && is_on_side c.args.head.now c.args.left x) (sym (c.ends.ensures.target ∙ told_at (to p) 0 p.edges c.loop-e.e x low is)) ∙ sym c.leads_ahead.ensures in
    let source = c.ends.ensures.source ∙ told_at (from p) 0 p.edges c.loop-e.e x low is in
    elim c.if-leads_ahead.branch [
      | then-leads_ahead+in_ok-columns_of+in_ok-push w ↦
          ap (λ v. v.items) w.keys-is
          ∙ pushed (key_at p) (is_ahead p c.args.v.0 c.args.head.now c.args.left) p.edges c.args.keys.now.items c.loop-e.keys.items _ c.loop-e.e x low is (asked ∙ w.if-leads_ahead.true) c.loop-e.invariant
          (w.in_ok-push.ensures.items ∙ ap₂ (λ (n : ℕ) (cols : List ℕ). c.loop-e.keys.items ++ (vertex n, cols) ∷ []) source w.in_ok-columns_of.ensures)
      | else-leads_ahead w ↦
          ap (λ v. v.items) w.keys-is
          ∙ passed (map (key_at p)) (is_ahead p c.args.v.0 c.args.head.now c.args.left) p.edges c.args.keys.now.items c.loop-e.keys.items c.loop-e.e x low is (asked ∙ w.if-leads_ahead.false) c.loop-e.invariant
    ]
