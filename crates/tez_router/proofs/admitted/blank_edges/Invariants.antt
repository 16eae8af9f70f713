use Rattle.std.proofs.Common.{◌≡◌, take}
use Rattle.std.specs.List.{flat_map}
use Rattle.tez_router.specs.Table.{blank_over}
use Rattle.tez_router.proofs.admitted.blank_edges.Given as goal

abbrev pub invariant-loop-link : goal.invariant-loop-link
invariant-loop-link l = l.edges.items ≡ flat_map (blank_over l.attempt) (take l.link-index l.links)
