use Rattle.std.proofs.Common.{◌≡◌, ◌+◌, ◌<◌, cond, ap, ◌∙◌, arith, set, length}
use Rattle.std.proofs.lemmas.List.{length-set}
use Rattle.tez_pool.specs.Table.{is_taken, numbers_for, clear_place}
use Rattle.tez_pool.proofs.PoolLemmas.{clear_step, number_step, one_number}
use Rattle.tez_pool.proofs.pool.clear_places.Goals as goal

pub loop-place-preserved : goal.loop-place-preserved
loop-place-preserved c =
    let inv = c.loop-place.invariant in
    let within : c.loop-place.place < length c.args.places.now = omega arith in
    let stored = c.set.ensures ∙ ap (set c.loop-place.places c.loop-place.place) c.cleared.ensures in
    let one = one_number c.args.reuse (is_taken c.get-old.result) in
    let given : c.numbers_for-number.result ≡ numbers_for c.args.reuse (cond (is_taken c.get-old.result) 1 0) = c.numbers_for-number.ensures ∙ ap (numbers_for c.args.reuse) c.holders.ensures in
    record {
      long = ap length stored ∙ length-set c.loop-place.places c.loop-place.place (clear_place c.args.reuse c.loop-place.number c.get-old.result) ∙ inv.long;
      places = stored ∙ clear_step c.args.reuse c.args.next c.loop-place.number c.loop-place.place c.args.places.now c.loop-place.places c.get-old.result inv.long within inv.places c.get-old.ensures inv.number;
      number = ap (λ n. c.loop-place.number + n) given ∙ number_step c.args.reuse c.args.next c.loop-place.number c.loop-place.place c.args.places.now c.loop-place.places c.get-old.result inv.long within inv.places c.get-old.ensures inv.number;
      few = omega arith;
    }
