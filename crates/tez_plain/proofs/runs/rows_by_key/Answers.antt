use Rattle.std.proofs.Common.{◌∙◌, ap}
use Rattle.tez_record.specs.Bag.{sort}
use Rattle.tez_plain.specs.Runs.{rows_of}
use Rattle.tez_plain.proofs.RowLemmas.{rows_by_key_is}
use Rattle.tez_plain.proofs.runs.rows_by_key.Goals as goal

pub returns : goal.returns
returns c = ap sort (c.in_ok-rows.ensures ∙ ap (rows_of c.args.says) c.as_slice.ensures.value) ∙ rows_by_key_is c.args.says c.args.cols.now c.args.records.now c.in_ok-entries.entries.items c.in_ok-entries.ensures
