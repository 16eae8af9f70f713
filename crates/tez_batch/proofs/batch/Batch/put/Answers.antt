use Rattle.std.proofs.Common.{sym, subst, rules}
use Rattle.tez_crew.specs.Lists.{Gains}
use Rattle.tez_crew.specs.Desks.{put_at}
use Rattle.tez_batch.specs.Marks.{marked}
use Rattle.tez_batch.proofs.Marking.{marked_gains, same_gains}
use Rattle.tez_batch.proofs.batch.Batch.put.Goals as goal

pub returns-in-Ok-Queued-clause-queued : goal.returns-in-Ok-Queued-clause-queued
returns-in-Ok-Queued-clause-queued g c = λ p.
    let was = c.put_order.ensures.queued (search rules) in
    subst (λ l. Gains (marked p c.args.self.now.queued.items) (marked p l) (put_at c.args.desk.now p) (put_at c.put_order.new.self p)) (sym c.push_reserved.ensures.items)
    (marked_gains c.place-place.result c.args.order.place c.attempt-attempt.result c.args.order.attempt (put_at c.args.desk.now) (put_at c.put_order.new.self) c.args.self.now.queued.items c.place-place.ensures c.attempt-attempt.ensures was.0 p)

pub returns-in-Ok-Own-clause-queued : goal.returns-in-Ok-Own-clause-queued
returns-in-Ok-Own-clause-queued g c = λ p. same_gains _ _ _ ((c.put_order.ensures.own c.in-Ok-Own.field-0-0 (search rules)).2 p)

pub returns-clause-queued : goal.returns-clause-queued
returns-clause-queued g c = λ p. same_gains _ _ _ (c.in-Err.ensures.refused.2 p)

pub returns-clause-owned : goal.returns-clause-owned
returns-clause-owned g c = same_gains _ _ _ c.in-Err.ensures.refused.1
