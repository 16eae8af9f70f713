use Rattle.std.proofs.Common.{◌∙◌, ap}
use Rattle.tez_record.specs.Bag.{sort}
use Rattle.tez_operators.proofs.KeyRowLemmas.{counts_bag}
use Rattle.tez_operators.proofs.heads.counts.Goals as goal

pub returns : goal.returns
returns c = ap sort c.in_ok-rows.ensures ∙ counts_bag c.args.cols.now c.args.records.now c.in_ok-totals.totals.entries c.in_ok-totals.ensures
