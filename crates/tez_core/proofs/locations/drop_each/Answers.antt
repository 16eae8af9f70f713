use Rattle.std.proofs.Common.{◌∙◌}
use Rattle.std.proofs.lemmas.List.{length-set}
use Rattle.tez_master_model.specs.Settled.{on_no_slot}
use Rattle.tez_core.proofs.Firsts.{mapped_more}
use Rattle.tez_core.proofs.locations.drop_each.Goals as goal

pub loop-i-preserved : goal.loop-i-preserved
loop-i-preserved c =
    let now = c.loop-i.slots in
    let inv = c.loop-i.invariant in
    record {
      sized = length-set now c.loop-i.i c.on_no_slot.result ∙ inv.sized;
      dropped = mapped_more (on_no_slot c.args.slot) c.args.slots.now now c.loop-i.i _ c.on_no_slot.result c.loop-i-test.true inv.dropped c.on_no_slot.ensures;
    }
