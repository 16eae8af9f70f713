use Rattle.std.proofs.Common.{◌≡◌, ◌∙◌, ◌++◌, ap, ap₂, sym, subst}
use Rattle.std.specs.List.{AllByRecursion}
use Rattle.tez_lists.proofs.Flat.{append-nil}
use Rattle.tez_record.specs.Line.{IsRecord, lines}
use Rattle.tez_record.proofs.BlockLemmas.{first_is_record}
use Rattle.tez_values.specs.Heads.{join_rows}
use Rattle.tez_plain.specs.Keyed.{Entries, records_in, with_key}
use Rattle.tez_plain.proofs.KeyLemmas.{all_with}
use Rattle.tez_plain.proofs.PairLemmas.{paired, joined}
use Rattle.tez_plain.proofs.pairs.join.Goals as goal

pub push_pairs-requires-clause-left : goal.push_pairs-requires-clause-left
push_pairs-requires-clause-left c = first_is_record c.loop-line.line-iterator.rest.now _ _ c.in-Some.ensures.steps

pub push_pairs-requires-clause-right : goal.push_pairs-requires-clause-right
push_pairs-requires-clause-right c =
    let run : c.of_key.result.now ≡ with_key c.put_key.new.buffer.items c.in_ok-entries.entries.items = c.of_key.ensures ∙ ap₂ with_key c.as_slice-in-loop-line.ensures.value c.as_slice.ensures.value in
    subst (λ (es : Entries). AllByRecursion IsRecord (records_in es)) (sym run) (all_with IsRecord c.put_key.new.buffer.items c.in_ok-entries.entries.items c.in_ok-entries.ensures.lines)

pub loop-line-preserved : goal.loop-line-preserved
loop-line-preserved c =
    let run : c.of_key.result.now ≡ with_key c.put_key.new.buffer.items c.in_ok-entries.entries.items = c.of_key.ensures ∙ ap₂ with_key c.as_slice-in-loop-line.ensures.value c.as_slice.ensures.value in
    paired c.args.cols.now c.args.right_cols.now c.args.right.now c.in_ok-entries.entries.items c.in_ok-entries.ensures _ c.loop-line.rows c.push_pairs.new.rows (lines c.loop-line.line-iterator.rest.now) (lines c.next.new.self.rest.now)
    c.in-Some.line.now c.put_key.new.buffer.items c.of_key.result.now c.in-Some.ensures.steps c.in_ok-put_key.ensures run c.in_ok-push_pairs.ensures c.loop-line.invariant

pub returns : goal.returns
returns c =
    let es = c.in_ok-entries.entries.items in
    joined c.args.cols.now c.args.right_cols.now c.args.left.now c.args.right.now c.loop-line.rows es c.in_ok-entries.ensures
    (sym (append-nil c.loop-line.rows) ∙ sym (ap (λ ls. c.loop-line.rows ++ join_rows c.args.cols.now c.args.right_cols.now ls (records_in es)) c.in-None.ensures.steps.0) ∙ c.loop-line.invariant)
