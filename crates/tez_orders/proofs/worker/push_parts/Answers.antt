use Rattle.std.proofs.Common.{◌≡◌, ◌∙◌, ◌+◌, ℕ, List, ap, ◌++◌, [], ◌∷◌}
use Rattle.tez_ids.specs.declared.EdgeId.{EdgeId}
use Rattle.tez_orders.proofs.CutLemmas.{each_next}
use Rattle.tez_orders.proofs.worker.push_parts.Goals as goal

pub loop-part-preserved : goal.loop-part-preserved
loop-part-preserved c =
    let f : ℕ → List (List ℕ) → EdgeId × ℕ × List (List ℕ) = λ p rs. (c.args.edge, p, rs) in
    record {
      number = ap (λ n. n + 1) c.loop-part.invariant.number;
      pieces = each_next f c.args.parts.now c.args.pieces.now c.loop-part.pieces c.push.new.self c.loop-part.part-index c.part-item.result c.loop-part-test.true c.loop-part.invariant.pieces c.part-item.is
          (c.in_ok-push.ensures ∙ ap (λ n. c.loop-part.pieces ++ f n c.part-item.result ∷ []) c.loop-part.invariant.number);
    }
