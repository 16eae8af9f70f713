use Rattle.std.proofs.Common.{◌≡◌, map, ap, sym, ◌∙◌, subst}
use Rattle.std.specs.Prelude.{IfSome}
use Rattle.tez_vman.specs.declared.seen.Config.{Config}
use Rattle.tez_history.specs.Shape.{edges_to}
use Rattle.tez_assembly.specs.Order.{order_for}
use Rattle.tez_inflight.specs.Seats.{seat_at}
use Rattle.tez_steps.proofs.Sending.{numbered_back, numbered_numbers, gatherer_parts}
use Rattle.tez_steps.proofs.inputs.order_of.Goals as goal

pub assemble-requires-clause-gathered : goal.assemble-requires-clause-gathered
assemble-requires-clause-gathered c =
    let at = gatherer_parts (seat_at c.args.running.now.seats.seats c.args.place) c.args.a c.requires.gathers in
    sym (numbered_numbers c.in_ok-parts.parts.items) ∙ ap (map (λ part. part.0)) (c.in_ok-parts.ensures c.args.a at.0 at.1) ∙ c.requires.gathered at.0 at.1

pub returns-in-Ok : goal.returns-in-Ok
returns-in-Ok c = λ s copy x vertex config waits.
    let edges = edges_to c.args.job.now.plan c.args.a.task.vertex.0 in
    let back = numbered_back edges copy c.in_ok-parts.parts.items (c.in_ok-parts.ensures c.args.a (map (λ e. (e.0, copy e.0)) edges) waits) in
    let tasks = subst (λ o. IfSome o (λ (k : Config). c.tasks_of-tasks.result ≡ k.tasks)) config c.tasks_of-tasks.ensures in
    c.in-Ok.ensures.order s copy vertex back ∙ ap (λ n. order_for c.args.job.now n c.args.a c.args.place copy s) tasks
