use Rattle.std.proofs.Common.{◌≡◌, ◌∙◌, ◌==◌, ◌<◌, ◌≤◌, ◌++◌, [], ◌∷◌, length, get_or, sym, ap, arith, ℕ}
use Rattle.tez_plan.specs.Dag.{from, to, edge, tasks_of as planned}
use Rattle.tez_meaning.proofs.Loops.{told_at}
use Rattle.tez_history.specs.Shape.{Edge}
use Rattle.tez_orders.specs.declared.cut.Cut.{Cut}
use Rattle.tez_assembly.specs.Order.{out_for, cut_by}
use Rattle.tez_assembly.proofs.LoopLemmas.{out_pushed, out_passed}
use Rattle.tez_assembly.proofs.edges.outs_of_vertex.Goals.{then-is_same+in_ok-cut_by+in_ok-push, else-is_same}
use Rattle.tez_assembly.proofs.edges.outs_of_vertex.Goals as goal

pub loop-e-preserved : goal.loop-e-preserved
loop-e-preserved c =
    let p = c.args.plan.now in
    let x = c.index-edges-e.result in
    let low : c.loop-e.e < length p.edges = omega (arith, c.loop-e-test.true, ap length c.edges-edges.ensures) in
    let is : x ≡ get_or p.edges c.loop-e.e x = c.index-edges-e.is ∙ ap (λ es. get_or es c.loop-e.e x) c.edges-edges.ensures in
    let asked : (from p x == c.args.v.0) ≡ c.is_same.result = ap (λ n. n == c.args.v.0) (sym (c.ends.ensures.source ∙ told_at (from p) 0 p.edges c.loop-e.e x low is)) ∙ sym c.is_same.ensures in
    let parts : c.tasks_of-parts.result ≡ planned p (to p x) = c.tasks_of-parts.ensures ∙ ap (planned p) (c.ends.ensures.target ∙ told_at (to p) 0 p.edges c.loop-e.e x low is) in
    elim c.if-is_same.branch [
      | then-is_same+in_ok-cut_by+in_ok-push w ↦
          ap (λ v. v.items) w.outs-is
          ∙ out_pushed (out_for p) (λ (e : Edge). from p e.1 == c.args.v.0) p.edges c.loop-e.outs.items _ c.loop-e.e x low is (asked ∙ w.if-is_same.true) c.loop-e.invariant
          (w.in_ok-push.ensures.items ∙ ap (λ (cut : Cut). c.loop-e.outs.items ++ (edge c.loop-e.e, cut) ∷ []) (w.in_ok-cut_by.ensures ∙ ap (cut_by x.movement) parts))
      | else-is_same w ↦
          ap (λ v. v.items) w.outs-is
          ∙ out_passed (out_for p) (λ (e : Edge). from p e.1 == c.args.v.0) p.edges c.loop-e.outs.items c.loop-e.e x low is (asked ∙ w.if-is_same.false) c.loop-e.invariant
    ]
