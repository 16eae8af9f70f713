use Rattle.std.proofs.Common.{rules, List, subst, sym, refl}
use Rattle.tez_crew.specs.declared.container.Mailbox.{Mailbox}
use Rattle.tez_crew.specs.declared.start.PreparedPlace.{PreparedPlace}
use Rattle.tez_crew.specs.PreparedPlaces.{IsPrepared}
use Rattle.tez_crew.proofs.OrderMoves.{begins}
use Rattle.tez_crew.proofs.Opened.{opens_more}
use Rattle.tez_crew.proofs.start.make_mailboxes.Goals as goal

pub ruled-requires-clause-rule : goal.ruled-requires-clause-rule
ruled-requires-clause-rule c = begins

pub loop-place-preserved : goal.loop-place-preserved
loop-place-preserved c =
    let mailboxes = c.in_ok-push.ensures.items in let prepared_places = c.in_ok-push-2.ensures.items in let inv = c.loop-place.invariant in let e = c.in_ok-order_queue.ensures in (
      search rules,
      search rules,
      subst (λ (y : List Mailbox × List PreparedPlace). IsPrepared y.0 y.1) (λ j. (sym mailboxes j, sym prepared_places j)) (opens_more _ _ c.loop-place.place _ _ inv.0 inv.1 inv.2 refl (e.1, e.3, e.0)),
    )
