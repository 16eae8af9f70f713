use Rattle.std.proofs.Common.{◌≡◌, ◌∙◌, ◌++◌, filter, ap, ap₂, map, not}
use Rattle.tez_record.specs.Line.{lines}
use Rattle.tez_record.specs.Field.{key}
use Rattle.tez_record.proofs.BlockLemmas.{first_is_record}
use Rattle.tez_record.proofs.LoopLemmas.{kept_one, passed_over}
use Rattle.tez_values.specs.Heads.{is_among}
use Rattle.tez_plain.specs.Keyed.{is_chosen, with_key}
use Rattle.tez_plain.proofs.PairLemmas.{found_is, chosen_yes, chosen_no}
use Rattle.tez_plain.proofs.pairs.chosen.Goals.{then-found-keep+in_ok-push, else-found-keep}
use Rattle.tez_plain.proofs.pairs.chosen.Goals as goal

pub push-requires : goal.push-requires
push-requires c = first_is_record c.loop-line.line-iterator.rest.now _ _ c.in-Some.ensures.steps

pub loop-line-preserved : goal.loop-line-preserved
loop-line-preserved c =
    let run : c.of_key.result.now ≡ with_key c.in_ok-own.own.items c.in_ok-entries.entries.items = c.of_key.ensures ∙ ap₂ with_key c.as_slice-in-loop-line.ensures.value c.as_slice.ensures.value in
    let found : not c.is_empty-found.result ≡ is_among (map (key c.args.side_cols.now) c.args.side.now) (key c.args.cols.now c.in-Some.line.now) =
    ap not c.is_empty-found.ensures ∙ found_is c.args.side_cols.now c.in_ok-own.own.items c.args.side.now c.in_ok-entries.entries.items c.of_key.result.now (key c.args.cols.now c.in-Some.line.now) c.in_ok-entries.ensures c.in_ok-own.ensures run in
    let chosen = is_chosen c.args.keep c.args.cols.now c.args.side_cols.now c.args.side.now in
    elim c.if-found-keep.branch [
      | then-found-keep+in_ok-push w ↦
          kept_one chosen c.loop-line.rows (lines c.loop-line.line-iterator.rest.now) (lines c.next.new.self.rest.now) c.in-Some.line.now c.if-found-keep.rows c.args.records.now c.in-Some.ensures.steps
          (chosen_yes c.args.keep (not c.is_empty-found.result) c.args.cols.now c.args.side_cols.now c.args.side.now c.in-Some.line.now found w.if-found-keep.true) (w.rows-is ∙ w.in_ok-push.ensures) c.loop-line.invariant
      | else-found-keep w ↦
          ap (λ xs. xs ++ filter chosen (lines c.next.new.self.rest.now)) w.rows-is ∙
          passed_over chosen c.loop-line.rows (lines c.loop-line.line-iterator.rest.now) (lines c.next.new.self.rest.now) c.in-Some.line.now c.args.records.now c.in-Some.ensures.steps
          (chosen_no c.args.keep (not c.is_empty-found.result) c.args.cols.now c.args.side_cols.now c.args.side.now c.in-Some.line.now found w.if-found-keep.false) c.loop-line.invariant
    ]
