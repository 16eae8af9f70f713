use Rattle.std.proofs.Common.{◌≡◌, ◌∙◌, ◌==◌, ◌&&◌, ◌<◌, ◌++◌, [], ◌∷◌, length, get_or, sym, ap, arith, ℕ}
use Rattle.std.specs.Prelude.{unwrap_or}
use Rattle.tez_plan.specs.Dag.{from, edge, is_scatter_gather}
use Rattle.tez_shelves.specs.Piece.{bytes_on}
use Rattle.tez_meaning.proofs.Loops.{told_at}
use Rattle.tez_history.specs.Shape.{Edge}
use Rattle.tez_master_model.specs.Bytes.{leaves_by_key}
use Rattle.tez_assembly.proofs.LoopLemmas.{out_pushed, out_passed}
use Rattle.tez_steps.proofs.reporting.made_over.Goals.{then-leaves_by_key+in_ok-push, else-leaves_by_key}
use Rattle.tez_steps.proofs.reporting.made_over.Goals as goal

pub loop-e-preserved : goal.loop-e-preserved
loop-e-preserved c =
    let p = c.args.plan.now in
    let v = c.args.a.task.vertex.0 in
    let x = c.index-edges-e.result in
    let low : c.loop-e.e < length p.edges = omega (arith, c.loop-e-test.true, ap length c.edges-edges.ensures) in
    let is : x ≡ get_or p.edges c.loop-e.e x = c.index-edges-e.is ∙ ap (λ es. get_or es c.loop-e.e x) c.edges-edges.ensures in
    let asked : (is_scatter_gather x && (from p x == v)) ≡ c.leaves_by_key.result = ap (λ n. is_scatter_gather x && (n == v)) (sym (c.ends.ensures.source ∙ told_at (from p) 0 p.edges c.loop-e.e x low is)) ∙ sym c.leaves_by_key.ensures in
    elim c.if-leaves_by_key.branch [
      | then-leaves_by_key+in_ok-push w ↦
          ap (λ m. m.items) w.made-is
          ∙ out_pushed (λ (e : Edge). (edge e.0, unwrap_or (bytes_on (edge e.0) c.args.pieces.now) 0)) (leaves_by_key p v) p.edges c.loop-e.made.items _ c.loop-e.e x low is (asked ∙ w.if-leaves_by_key.true) c.loop-e.invariant
          (w.in_ok-push.ensures.items ∙ ap (λ (n : ℕ). c.loop-e.made.items ++ (edge c.loop-e.e, n) ∷ []) w.bytes_over.ensures)
      | else-leaves_by_key w ↦
          ap (λ m. m.items) w.made-is
          ∙ out_passed (λ (e : Edge). (edge e.0, unwrap_or (bytes_on (edge e.0) c.args.pieces.now) 0)) (leaves_by_key p v) p.edges c.loop-e.made.items c.loop-e.e x low is (asked ∙ w.if-leaves_by_key.false) c.loop-e.invariant
    ]
