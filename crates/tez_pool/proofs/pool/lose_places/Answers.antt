use Rattle.std.proofs.Common.{◌≡◌, ◌+◌, ◌*◌, ◌<◌, ap, ◌∙◌, arith, refl, set, length}
use Rattle.std.proofs.lemmas.List.{length-set}
use Rattle.tez_pool.specs.Table.{free}
use Rattle.tez_pool.proofs.PoolLemmas.{each_same, lose_first, lost_none, lose_step, all_lost}
use Rattle.tez_pool.proofs.pool.lose_places.Goals as goal

pub loop-i-init : goal.loop-i-init
loop-i-init c = record { long = refl; places = each_same 0 (lose_first 0 c.args.per_node c.args.slot c.args.next) c.args.places.now (lost_none c.args.per_node c.args.slot c.args.next) }

pub loop-i-preserved : goal.loop-i-preserved
loop-i-preserved c =
    let at = c.args.slot * c.args.per_node + c.loop-i.i in
    let stored : c.set.new.self ≡ set c.loop-i.places at (free (c.args.next + c.loop-i.i)) = c.set.ensures ∙ ap (set c.loop-i.places at) c.free.ensures in
    let within : c.args.slot * c.args.per_node + c.loop-i.i < length c.args.places.now = omega (arith, c.requires.inside) in
    record {
      long = ap length stored ∙ length-set c.loop-i.places at (free (c.args.next + c.loop-i.i)) ∙ c.loop-i.invariant.long;
      places = stored ∙ lose_step c.loop-i.i c.args.per_node c.args.slot c.args.next at c.args.places.now c.loop-i.places (omega arith) refl within c.loop-i.invariant.places;
    }

pub returns : goal.returns
returns c = c.loop-i.invariant.places ∙ all_lost c.loop-i.i c.args.per_node c.args.slot c.args.next c.args.places.now (omega arith) c.requires.some
