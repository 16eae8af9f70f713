use Rattle.std.proofs.Common.{subst}
use Rattle.tez_crew.specs.Lists.{Gains}
use Rattle.tez_crew.specs.Desks.{put_at, got_at}
use Rattle.tez_crew.specs.Events.{of}
use Rattle.tez_batch.specs.Marks.{marked}
use Rattle.tez_batch.proofs.batch.BatchDispatch.turn.Goals as goal

pub returns-in-Some-clause-queued : goal.returns-in-Some-clause-queued
returns-in-Some-clause-queued g c = λ p. subst (λ l. Gains (marked p l) (marked p c.put.new.self.queued.items) (put_at c.args.desk.now p) (put_at c.put.new.desk p)) c.reserve.ensures.items (c.put.ensures.queued p)

pub returns-in-None-clause-got : goal.returns-in-None-clause-got
returns-in-None-clause-got g c = λ p. subst (λ l. Gains (of p l) (of p c.take.new.self.reports.items) (got_at c.args.desk.now p) (got_at c.take.new.desk p)) c.reserve-3.ensures.items (c.take.ensures.got p)
