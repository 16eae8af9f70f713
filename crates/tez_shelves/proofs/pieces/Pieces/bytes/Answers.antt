use Rattle.std.proofs.Common.{◌∙◌, ap, sym, subst, arith, None}
use Rattle.tez_shelves.specs.Cut.{cut_from, AreCuts}
use Rattle.tez_shelves.proofs.CutLemmas.{counted, counted_all}
use Rattle.tez_shelves.proofs.pieces.Pieces.bytes.Goals as goal

pub loop-mark-init : goal.loop-mark-init
loop-mark-init c = record {
  block = c.self.inside.block.items;
  cuts = subst (AreCuts 0 c.self.inside.block.items) (sym c.deref-mark-items.ensures.value) c.self.invariant.cuts;
  few = omega arith;
  same = ap (λ ms. counted None c.args.edge (cut_from 0 c.self.inside.block.items ms)) c.deref-mark-items.ensures.value ∙ ap (counted None c.args.edge) c.self.view_is ∙ counted_all c.args.edge c.args.self.now;
}
