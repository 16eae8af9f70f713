use Rattle.std.proofs.Common.{arith}
use Rattle.std.proofs.lemmas.Grind.{common_steps}
use Rattle.tez_pool.specs.Table.{free}
use Rattle.tez_pool.proofs.PlaceLemmas.{one_more}
use Rattle.tez_pool.proofs.places.free_places.Goals as goal

pub loop-place-preserved : goal.loop-place-preserved
loop-place-preserved c = grind (arith, common_steps, one_more free c.loop-place.place)
