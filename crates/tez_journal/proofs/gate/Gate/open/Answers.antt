use Rattle.std.proofs.Common.{◌≡◌, ◌∙◌, Err, ap}
use Rattle.tez_journal.specs.declared.fault.JournalFault.TheVariants.{Refused}
use Rattle.tez_journal.proofs.gate.Gate.open.Goals as goal

pub returns-in-Err-clause-refused : goal.returns-in-Err-clause-refused
returns-in-Err-clause-refused g c = λ is. let same : c.in-Err.fault ≡ Refused = cc in c.load.ensures.refused (c.in-Err.is ∙ ap Err same)
