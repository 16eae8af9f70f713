use Rattle.std.proofs.Common.{ap, subst, drop}
use Rattle.tez_events.specs.Body.{body, Reads}
use Rattle.tez_journal.proofs.EntryLemmas.{body_short, not_body}
use Rattle.tez_journal.proofs.text.read_entry.Goals as goal

pub returns-in_default : goal.returns-in_default
returns-in_default c = λ r x more fits same. c.in_default.ensures.frame (body r) x more (body_short r fits) (ap (drop 1) same)

pub returns-in-None : goal.returns-in-None
returns-in-None c = not_body c.args.bytes.now c.in-Some.body.now c.in-Some.ensures.frame c.in-Some.ensures.short (subst (Reads c.in-Some.body.now) c.in-None.is c.in_ok-record.ensures.reads)
