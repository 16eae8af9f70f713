use Rattle.std.proofs.Common.{◌∙◌, Err, ap}
use Rattle.tez_journal.proofs.journal.Journal.open.Goals as goal

pub returns-in-Err-clause-refused : goal.returns-in-Err-clause-refused
returns-in-Err-clause-refused g c = λ is. c.open.ensures.refused (c.in-Err.is ∙ ap Err is)
