use Rattle.std.proofs.Common.{◌≡◌, drop}
use Rattle.tez_router.specs.Table.{first_complete}
use Rattle.tez_router.proofs.fetches.first_complete.Given as goal

abbrev pub invariant-loop-x : goal.invariant-loop-x
invariant-loop-x l = first_complete l.admitted ≡ first_complete (drop l.x-index l.admitted)
