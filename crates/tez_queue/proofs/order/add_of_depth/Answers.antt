use Rattle.std.proofs.Common.{◌==◌, slice_index_or, ap, ◌∙◌, eq-eqb, ne_eqb}
use Rattle.tez_queue.proofs.ListLemmas.{filter_kept, filter_dropped}
use Rattle.tez_queue.proofs.order.add_of_depth.Goals as goal
use Rattle.tez_queue.proofs.order.add_of_depth.Goals.{then-depths-v+in_ok-push, else-depths-v}

pub loop-v-preserved : goal.loop-v-preserved
loop-v-preserved c = elim c.if-depths-v.branch [
  | then-depths-v+in_ok-push w ↦
      ap (λ v. v.items) w.vertices-is
      ∙ filter_kept (λ v. slice_index_or c.args.depths.now v 0 == c.args.d) c.loop-v.v c.args.vertices.now.items c.loop-v.vertices.items w.push.new.self.items c.loop-v.invariant (eq-eqb _ _ w.if-depths-v.true) w.in_ok-push.ensures.items
  | else-depths-v w ↦
      ap (λ v. v.items) w.vertices-is
      ∙ filter_dropped (λ v. slice_index_or c.args.depths.now v 0 == c.args.d) c.loop-v.v c.args.vertices.now.items c.loop-v.vertices.items c.loop-v.invariant (ne_eqb _ _ w.if-depths-v.false)
]
