use Rattle.std.proofs.Common.{◌≡◌, ◌∙◌, ◌==◌, ◌<◌, ◌≤◌, length, get_or, sym, ap, arith, map, filter, take_all}
use Rattle.std.specs.List.{enumerate_from}
use Rattle.tez_plan.specs.Dag.{to, edge}
use Rattle.tez_meaning.proofs.Loops.{told_at}
use Rattle.tez_history.specs.Shape.{Edge}
use Rattle.tez_assembly.proofs.LoopLemmas.{out_pushed, out_passed}
use Rattle.tez_assembly.proofs.edges.edges_into.Goals.{then-is_same+in_ok-push, else-is_same}
use Rattle.tez_assembly.proofs.edges.edges_into.Goals as goal

pub loop-e-preserved : goal.loop-e-preserved
loop-e-preserved c =
    let p = c.args.plan.now in
    let x = c.index-edges-e.result in
    let low : c.loop-e.e < length p.edges = omega (arith, c.loop-e-test.true, ap length c.edges-edges.ensures) in
    let is : x ≡ get_or p.edges c.loop-e.e x = c.index-edges-e.is ∙ ap (λ es. get_or es c.loop-e.e x) c.edges-edges.ensures in
    let asked : (to p x == c.args.v.0) ≡ c.is_same.result = ap (λ n. n == c.args.v.0) (sym (c.ends.ensures.target ∙ told_at (to p) 0 p.edges c.loop-e.e x low is)) ∙ sym c.is_same.ensures in
    elim c.if-is_same.branch [
      | then-is_same+in_ok-push w ↦
          ap (λ v. v.items) w.found-is
          ∙ out_pushed (λ (e : Edge). edge e.0) (λ (e : Edge). to p e.1 == c.args.v.0) p.edges c.loop-e.found.items _ c.loop-e.e x low is (asked ∙ w.if-is_same.true) c.loop-e.invariant w.in_ok-push.ensures.items
      | else-is_same w ↦
          ap (λ v. v.items) w.found-is
          ∙ out_passed (λ (e : Edge). edge e.0) (λ (e : Edge). to p e.1 == c.args.v.0) p.edges c.loop-e.found.items c.loop-e.e x low is (asked ∙ w.if-is_same.false) c.loop-e.invariant
    ]
