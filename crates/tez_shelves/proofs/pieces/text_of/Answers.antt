use Rattle.std.proofs.Common.{◌∙◌, ap}
use Rattle.tez_record.specs.Line.{lines}
use Rattle.tez_shelves.proofs.CutLemmas.{lines_of_text}
use Rattle.tez_shelves.proofs.pieces.text_of.Goals as goal

pub returns-clause-lines : goal.returns-clause-lines
returns-clause-lines c = ap lines c.text.ensures ∙ lines_of_text c.iter-lines.result.rest.now c.args.records.now c.iter-lines.ensures
