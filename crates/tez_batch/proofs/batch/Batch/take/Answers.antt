use Rattle.std.proofs.Common.{sym, subst, rules}
use Rattle.tez_crew.specs.Lists.{Gains}
use Rattle.tez_crew.specs.Desks.{got_at}
use Rattle.tez_crew.specs.Events.{of}
use Rattle.tez_batch.proofs.Marking.{of_gains}
use Rattle.tez_batch.proofs.batch.Batch.take.Goals as goal

pub returns-in-Some-clause-got : goal.returns-in-Some-clause-got
returns-in-Some-clause-got g c = λ p.
    let was = c.take_report.ensures.some c.in-Some.report (search rules) in
    subst (λ l. Gains (of p c.args.self.now.reports.items) (of p l) (got_at c.args.desk.now p) (got_at c.take_report.new.self p)) (sym c.push_reserved.ensures.items)
    (of_gains c.in-Some.report (got_at c.args.desk.now) (got_at c.take_report.new.self) c.args.self.now.reports.items was p)
