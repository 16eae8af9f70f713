use Rattle.std.proofs.Common.{◌≡◌, map}
use Rattle.tez_lists.specs.Numbers.{numbers_from}
use Rattle.tez_pool.specs.Table.{free}
use Rattle.tez_pool.proofs.places.free_places.Given as goal

abbrev pub invariant-loop-place : goal.invariant-loop-place
invariant-loop-place l = l.all.items ≡ map free (numbers_from 0 l.place)
