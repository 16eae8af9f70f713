use Rattle.std.proofs.Common.{◌∙◌, sym}
use Rattle.tez_plain.proofs.GoodLemmas.{none_bad_for_step}
use Rattle.tez_plain.proofs.steps.bad_records.Goals as goal

pub returns : goal.returns
returns c = c.new.ensures ∙ none_bad_for_step c.args.step.now c.args.rows.now (sym c.step_reads_number.ensures ∙ c.if-step_reads_number.false)
