use Rattle.std.proofs.Common.{◌∙◌, sym, ap}
use Rattle.std.specs.List.{list_any}
use Rattle.std.proofs.lemmas.List.Folds.{list_all_at}
use Rattle.tez_operators.specs.Process.{is_vertex}
use Rattle.tez_orders.proofs.fit.come_from.Goals as goal

pub returns-then-not-is_among : goal.returns-then-not-is_among
returns-then-not-is_among c =
    sym (list_all_at (λ part. list_any (λ k. is_vertex k.0 part.0) c.args.keys.now) c.args.primary.now c.loop-vertex.vertex-index c.loop-vertex-item.result c.loop-vertex-test.true
    (ap (λ part. list_any (λ k. is_vertex k.0 part.0) c.args.keys.now) (sym c.loop-vertex-item.is) ∙ sym c.is_among.ensures ∙ c.if-not-is_among.true))
