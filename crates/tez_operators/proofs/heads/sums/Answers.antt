use Rattle.std.proofs.Common.{◌∙◌, ap}
use Rattle.tez_record.specs.Bag.{sort}
use Rattle.tez_operators.proofs.KeyRowLemmas.{sums_bag}
use Rattle.tez_operators.proofs.heads.sums.Goals as goal

pub returns : goal.returns
returns c = ap sort c.in_ok-rows.ensures ∙ sums_bag c.args.cols.now c.args.value c.args.records.now c.in_ok-totals.totals.entries c.requires c.in_ok-totals.ensures
