use Rattle.tez_record.proofs.FieldLemmas.{first-none, first-some}
use Rattle.tez_record.proofs.fields.before_tab.Goals as goal

pub returns-in-None : goal.returns-in-None
returns-in-None c = first-none c.args.r.now c.in-None.ensures

pub returns-in-Some : goal.returns-in-Some
returns-in-Some c = first-some c.args.r.now c.in-Some.at c.in-Some.ensures.0.high c.in-Some.ensures.0.before c.in-Some.ensures.1
