use Rattle.std.proofs.Common.{◌≡◌, ◌++◌, take}
use Rattle.tez_router.specs.Between.{notices_by}
use Rattle.tez_router.proofs.notices.add_attempt.Given as goal

abbrev pub invariant-loop-edge : goal.invariant-loop-edge
invariant-loop-edge l = l.found.items ≡ l.fn.found.items ++ notices_by l.links l.loss.task l.loss.lost (take l.edge-index l.edges) l.admitted
