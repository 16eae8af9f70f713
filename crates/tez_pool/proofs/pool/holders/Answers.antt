use Rattle.std.specs.Prelude.{IsSome}
use Rattle.std.proofs.Common.{arith, subst}
use Rattle.std.proofs.lemmas.Grind.{common_steps}
use Rattle.tez_pool.specs.Table.{who, free}
use Rattle.tez_pool.proofs.PlaceLemmas.{got}
use Rattle.tez_pool.proofs.PoolLemmas.{on_err, some_there, filter_map_more}
use Rattle.tez_pool.proofs.pool.holders.Goals as goal

pub loop-place-preserved : goal.loop-place-preserved
loop-place-preserved c = grind (arith, common_steps, filter_map_more who c.args.places.now c.loop-place.place-index)

pub returns-in_err-add-clause-some : goal.returns-in_err-add-clause-some
returns-in_err-add-clause-some c =
    on_err c.from_residual.result (some_there who c.args.places.now c.loop-place.place-index _ (got c.args.places.now c.loop-place.place-index (free 0) c.loop-place-test.true) (subst (λ o. IsSome o) c.who.ensures c.in_err-add.ensures.some))
