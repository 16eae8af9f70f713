use Rattle.std.proofs.Common.{◌≡◌, take}
use Rattle.tez_router.specs.Between.{edges_between}
use Rattle.tez_router.proofs.notices.edges_between.Given as goal

abbrev pub invariant-loop-link : goal.invariant-loop-link
invariant-loop-link l = l.edges.items ≡ edges_between (take l.link-index l.links) l.from.0 l.to.0
