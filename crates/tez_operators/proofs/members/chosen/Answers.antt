use Rattle.std.proofs.Common.{◌≡◌, ◌∙◌, ap, map, is_some, bytes_eq}
use Rattle.std.specs.Map.{lookup}
use Rattle.tez_record.specs.Line.{lines}
use Rattle.tez_record.specs.Field.{key}
use Rattle.tez_record.proofs.BlockLemmas.{first_is_record}
use Rattle.tez_record.proofs.LoopLemmas.{kept_one, passed_over}
use Rattle.tez_values.specs.Heads.{is_among}
use Rattle.tez_operators.specs.Members.{is_chosen}
use Rattle.tez_operators.specs.declared.totals.Amount.TheVariants.{One}
use Rattle.tez_operators.proofs.TotalLemmas.{has-fold}
use Rattle.tez_operators.proofs.GroupLemmas.{chosen_yes, chosen_no}
use Rattle.tez_operators.proofs.members.chosen.Goals as goal

pub set-requires : goal.set-requires
set-requires c = first_is_record c.loop-line.line-iterator.rest.now _ _ c.in-Some.ensures.steps

pub push-requires : goal.push-requires
push-requires c = first_is_record c.loop-line.line-iterator.rest.now _ _ c.in-Some.ensures.steps

pub loop-line-preserved-in-Continue-branch-3 : goal.loop-line-preserved-in-Continue-branch-3
loop-line-preserved-in-Continue-branch-3 c =
    let found : c.contains_key.result ≡ is_among (map (key c.args.side_cols.now) c.args.side.now) (key c.args.cols.now c.in-Some.line.now) =
    c.contains_key.ensures ∙ ap (λ es. is_some (lookup (bytes_eq c.set.new.self) es)) c.in_ok-keys.ensures ∙ has-fold c.args.side_cols.now One c.args.side.now c.set.new.self ∙ ap (is_among (map (key c.args.side_cols.now) c.args.side.now)) c.in_ok-set.ensures in
    kept_one (is_chosen c.args.keep c.args.cols.now c.args.side_cols.now c.args.side.now) c.loop-line.rows (lines c.loop-line.line-iterator.rest.now) (lines c.next.new.self.rest.now) c.in-Some.line.now c.push.new.self c.args.records.now c.in-Some.ensures.steps
    (chosen_yes c.args.keep c.contains_key.result c.args.cols.now c.args.side_cols.now c.args.side.now c.in-Some.line.now found c.if-contains_key-keep.true) c.in_ok-push.ensures c.loop-line.invariant

pub loop-line-preserved : goal.loop-line-preserved
loop-line-preserved c =
    let found : c.contains_key.result ≡ is_among (map (key c.args.side_cols.now) c.args.side.now) (key c.args.cols.now c.in-Some.line.now) =
    c.contains_key.ensures ∙ ap (λ es. is_some (lookup (bytes_eq c.set.new.self) es)) c.in_ok-keys.ensures ∙ has-fold c.args.side_cols.now One c.args.side.now c.set.new.self ∙ ap (is_among (map (key c.args.side_cols.now) c.args.side.now)) c.in_ok-set.ensures in
    passed_over (is_chosen c.args.keep c.args.cols.now c.args.side_cols.now c.args.side.now) c.loop-line.rows (lines c.loop-line.line-iterator.rest.now) (lines c.next.new.self.rest.now) c.in-Some.line.now c.args.records.now c.in-Some.ensures.steps
    (chosen_no c.args.keep c.contains_key.result c.args.cols.now c.args.side_cols.now c.args.side.now c.in-Some.line.now found c.if-contains_key-keep.false) c.loop-line.invariant
