use Rattle.std.proofs.Common.{◌∙◌, ◌≡◌, ap, true, false, not, []}
use Rattle.std.specs.List.{filter}
use Rattle.std.specs.Option.{unwrap_or}
use Rattle.std.proofs.lemmas.Result.{IfOk-weaker}
use Rattle.tez_values.specs.Heads.{join_rows}
use Rattle.tez_operators.specs.Process.{is_left, records_of}
use Rattle.tez_operators.specs.Members.{is_chosen}
use Rattle.tez_operators.proofs.HeadLemmas.{joined, kept_in, dropped_in}
use Rattle.tez_operators.proofs.heads.rows_of.Goals as goal

pub returns-in_ok-right-in-Join : goal.returns-in_ok-right-in-Join
returns-in_ok-right-in-Join c =
    IfOk-weaker c.join.result (λ rows. rows ≡ join_rows c.columns_at-cols.result.now c.columns_at.result.now c.args.left c.in_ok-right-in-Join.right) _
    (λ rows e. joined c.args.head.now c.in-Join.left c.args.keys.now c.args.inputs.now.primary c.args.inputs.now.side c.columns_at-cols.result.now c.columns_at.result.now c.args.left c.in_ok-right-in-Join.right rows
    c.in-Join.is c.columns_at-cols.ensures c.columns_at.ensures c.requires.left (c.in_ok-right-in-Join.ensures ∙ ap (records_of (λ u. not (is_left c.args.head.now c.args.keys.now u))) c.as_slice.ensures) e) c.join.ensures

pub returns-in-KeepIn : goal.returns-in-KeepIn
returns-in-KeepIn c =
    let side : c.side_or-side.result.now ≡ unwrap_or c.args.inputs.now.side [] = c.side_or-side.ensures ∙ ap (unwrap_or c.args.inputs.now.side) c.new-none.ensures in
    IfOk-weaker c.chosen.result (λ rows. rows ≡ filter (is_chosen true c.as_slice-in-KeepIn.result.now c.as_slice-in-KeepIn-2.result.now c.side_or-side.result.now) c.args.left) _
    (λ rows e. kept_in c.args.head.now c.in-KeepIn.key c.in-KeepIn.side_key c.args.keys.now c.args.inputs.now.primary c.args.inputs.now.side c.as_slice-in-KeepIn.result.now c.as_slice-in-KeepIn-2.result.now c.side_or-side.result.now c.args.left rows
    c.in-KeepIn.is c.as_slice-in-KeepIn.ensures c.as_slice-in-KeepIn-2.ensures side c.requires.left e) c.chosen.ensures

pub returns-in-DropIn : goal.returns-in-DropIn
returns-in-DropIn c =
    let side : c.side_or-side.result.now ≡ unwrap_or c.args.inputs.now.side [] = c.side_or-side.ensures ∙ ap (unwrap_or c.args.inputs.now.side) c.new-none.ensures in
    IfOk-weaker c.chosen-in-DropIn.result (λ rows. rows ≡ filter (is_chosen false c.as_slice-in-DropIn.result.now c.as_slice-in-DropIn-2.result.now c.side_or-side.result.now) c.args.left) _
    (λ rows e. dropped_in c.args.head.now c.in-DropIn.key c.in-DropIn.side_key c.args.keys.now c.args.inputs.now.primary c.args.inputs.now.side c.as_slice-in-DropIn.result.now c.as_slice-in-DropIn-2.result.now c.side_or-side.result.now c.args.left rows
    c.in-DropIn.is c.as_slice-in-DropIn.ensures c.as_slice-in-DropIn-2.ensures side c.requires.left e) c.chosen-in-DropIn.ensures
