use Rattle.std.proofs.Common.{◌∙◌, map}
use Rattle.std.proofs.lemmas.List.{length-set}
use Rattle.tez_master_model.specs.Settled.{on_no_slot}
use Rattle.tez_core.proofs.Firsts.{mapped_more}
use Rattle.tez_core.proofs.locations.drop_slot.Goals as goal

pub loop-v-preserved : goal.loop-v-preserved
loop-v-preserved c =
    let now = c.loop-v.locations in
    let inv = c.loop-v.invariant in
    record {
      sized = length-set now c.loop-v.v c.drop_slot.new.self ∙ inv.sized;
      dropped = mapped_more (map (on_no_slot c.args.slot)) c.args.locations.now now c.loop-v.v _ c.drop_slot.new.self c.loop-v-test.true inv.dropped c.drop_slot.ensures;
    }
