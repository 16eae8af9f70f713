use Rattle.tez_journal.proofs.TextLemmas.{text_one}
use Rattle.tez_journal.proofs.text_tells_its_records.Goals as goal

pub returns : goal.returns
returns c = text_one
