use Rattle.std.proofs.Common.{◌≡◌, ◌++◌, take, not}
use Rattle.std.specs.List.{flat_map, filter}
use Rattle.tez_router.specs.State.{AdmittedState}
use Rattle.tez_router.specs.Table.{is_among}
use Rattle.tez_router.specs.Between.{notices_by}
use Rattle.tez_router.proofs.notices.add_all.Given as goal

abbrev pub invariant-loop-x : goal.invariant-loop-x
invariant-loop-x l = l.found.items ≡ l.fn.found.items ++ flat_map (notices_by l.links l.loss.task l.loss.lost l.edges) (filter (λ (x : AdmittedState). not (is_among l.ended x.attempt)) (take l.x-index l.admitted))
