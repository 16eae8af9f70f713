use Rattle.std.proofs.Common.{◌≡◌, [], take}
use Rattle.std.specs.List.{flat_map}
use Rattle.tez_router.specs.Table.{attempt_fetches}
use Rattle.tez_router.proofs.fetches.first_fetch.Given as goal

abbrev pub invariant-loop-x : goal.invariant-loop-x
invariant-loop-x l = flat_map (attempt_fetches l.links l.rows) (take l.x-index l.admitted) ≡ []
