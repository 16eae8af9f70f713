use Rattle.std.proofs.Common.{◌∙◌, sym}
use Rattle.tez_plain.proofs.GoodLemmas.{none_bad_for_head}
use Rattle.tez_plain.proofs.heads.bad_records.Goals as goal

pub returns : goal.returns
returns c = c.new.ensures ∙ none_bad_for_head c.args.head.now c.args.primary.now (sym c.reads_number.ensures ∙ c.if-reads_number.false)
