use Rattle.std.proofs.Common.{◌≡◌, true, false}
use Rattle.std.specs.List.{filter}
use Rattle.std.proofs.lemmas.Result.{IfOk-weaker}
use Rattle.tez_plain.specs.Keyed.{is_chosen}
use Rattle.tez_plain.proofs.PairLemmas.{kept_in, dropped_in}
use Rattle.tez_plain.proofs.heads.rows_of.Goals as goal

pub returns-in-KeepIn : goal.returns-in-KeepIn
returns-in-KeepIn c =
    IfOk-weaker c.chosen.result (λ rows. rows ≡ filter (is_chosen true c.as_slice-in-KeepIn.result.now c.as_slice-in-KeepIn-2.result.now c.side-side.result.now) c.primary-primary.result.now) _
    (λ rows e. kept_in c.args.head.now c.in-KeepIn.key c.in-KeepIn.side_key c.args.inputs.now c.as_slice-in-KeepIn.result.now c.as_slice-in-KeepIn-2.result.now c.side-side.result.now c.primary-primary.result.now rows
    c.in-KeepIn.is c.as_slice-in-KeepIn.ensures c.as_slice-in-KeepIn-2.ensures c.side-side.ensures c.primary-primary.ensures e) c.chosen.ensures

pub returns-in-DropIn : goal.returns-in-DropIn
returns-in-DropIn c =
    IfOk-weaker c.chosen-in-DropIn.result (λ rows. rows ≡ filter (is_chosen false c.as_slice-in-DropIn.result.now c.as_slice-in-DropIn-2.result.now c.side-side.result.now) c.primary-primary.result.now) _
    (λ rows e. dropped_in c.args.head.now c.in-DropIn.key c.in-DropIn.side_key c.args.inputs.now c.as_slice-in-DropIn.result.now c.as_slice-in-DropIn-2.result.now c.side-side.result.now c.primary-primary.result.now rows
    c.in-DropIn.is c.as_slice-in-DropIn.ensures c.as_slice-in-DropIn-2.ensures c.side-side.ensures c.primary-primary.ensures e) c.chosen-in-DropIn.ensures
