use Rattle.std.proofs.Common.{[]}
use Rattle.tez_router.specs.State.{AdmittedState}
use Rattle.tez_router.proofs.Ordered.{found_only, found_nowhere}
use Rattle.tez_router.proofs.order.find.Goals as goal

pub returns-then-is_at-clause-some : goal.returns-then-is_at-clause-some
returns-then-is_at-clause-some c =
    let d : AdmittedState = record { attempt = c.args.attempt; edges = [] } in
    let there = c.is_at.ensures.yes c.if-is_at.true d in
    found_only c.args.admitted.now c.args.attempt c.place_of-at.result d c.requires c.place_of-at.ensures.place there.0 there.1

pub returns-else-is_at-clause-none : goal.returns-else-is_at-clause-none
returns-else-is_at-clause-none c = found_nowhere c.args.admitted.now c.args.attempt c.place_of-at.result c.requires c.place_of-at.ensures.place (c.is_at.ensures.no c.if-is_at.false)
