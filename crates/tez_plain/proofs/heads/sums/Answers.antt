use Rattle.std.proofs.Common.{◌≡◌}
use Rattle.std.proofs.lemmas.Result.{IfOk-weaker}
use Rattle.tez_record.specs.Bag.{sort}
use Rattle.tez_values.specs.Heads.{rows_by_key, sum_rows}
use Rattle.tez_plain.specs.Runs.{row_of}
use Rattle.tez_plain.specs.declared.runs.Says.TheVariants.{Sum}
use Rattle.tez_plain.proofs.RowLemmas.{sums_are}
use Rattle.tez_plain.proofs.heads.sums.Goals as goal

pub returns : goal.returns
returns c = IfOk-weaker c.rows_by_key.result (λ rows. sort rows ≡ sort (rows_by_key (row_of (Sum c.args.value)) c.args.cols.now c.args.records.now)) (λ rows. sort rows ≡ sort (sum_rows c.args.cols.now c.args.value c.args.records.now))
    (λ rows made. sums_are c.args.cols.now c.args.value c.args.records.now rows c.requires made) c.rows_by_key.ensures
