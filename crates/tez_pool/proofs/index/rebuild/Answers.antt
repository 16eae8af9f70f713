use Rattle.std.proofs.Common.{◌<◌, length, arith, ap}
use Rattle.std.specs.Prelude.{option_and_then}
use Rattle.tez_pool.specs.Table.{who}
use Rattle.tez_pool.proofs.PlaceLemmas.{got, inside, place_from}
use Rattle.tez_pool.proofs.IndexLemmas.{entered}
use Rattle.tez_pool.proofs.index.rebuild.Goals as goal

pub loop-at-preserved : goal.loop-at-preserved
loop-at-preserved c = record {
  finds = entered c.args.places.now c.args.index.now c.loop-at.index c.enter.new.index c.loop-at.at _ c.requires.index
      (ap (option_and_then who) (got c.args.places.now c.loop-at.at _ c.loop-at-test.true)) c.enter.ensures.updates c.loop-at.invariant.finds;
  few = omega arith;
  room = omega arith;
}

pub returns-clause-kept : goal.returns-clause-kept
returns-clause-kept c = record {
  finds = λ p a h.
      let x = place_from c.args.places.now p a h in
      let l : p < length c.args.places.now = inside c.args.places.now p x.0 x.1 in
      c.loop-at.invariant.finds p a (omega arith) h;
  room = c.loop-at.invariant.room;
}
