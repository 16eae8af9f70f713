use Rattle.std.proofs.Common.{sym, ap, ◌∙◌, set}
use Rattle.std.proofs.lemmas.List.Edits.{map_over_more}
use Rattle.tez_record.specs.Bag.{sort}
use Rattle.tez_partition.proofs.sort_each.Goals as goal

pub loop-part-preserved : goal.loop-part-preserved
loop-part-preserved c =
    ap (λ y. set c.loop-part.part-items c.loop-part.part-index y) c.in_ok-part.ensures
    ∙ ap (λ y. set c.loop-part.part-items c.loop-part.part-index (sort y)) (sym c.part-item.is)
    ∙ map_over_more sort c.args.parts.now c.loop-part.part-items c.loop-part.part-index c.part-item.result c.loop-part-test.true c.loop-part.invariant c.part-item.is
