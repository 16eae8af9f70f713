use Rattle.std.proofs.Common.{◌<◌, ◌≤◌, ◌^◌, ◌∙◌, ◌+◌, ◌++◌, ◌∷◌, [], ap, sym, arith, rules, length, take, drop, length-drop}
use Rattle.std.proofs.lemmas.List.{take_rest}
use Rattle.tez_operators.specs.Words.{counted, counted_words}
use Rattle.tez_operators.proofs.RowLemmas.{cut_none, cut_some, words_more, take_is_record, drop_is_record}
use Rattle.tez_operators.proofs.words.push_words.Goals as goal

pub push_word-requires : goal.push_word-requires
push_word-requires c = take_is_record c.in-Some.at c.loop-at.rest.now c.loop-at.invariant.is_record

pub push_word-requires-2 : goal.push_word-requires-2
push_word-requires-2 c = c.loop-at.invariant.is_record

pub overflow_add-rest : goal.overflow_add-rest
overflow_add-rest c =
    let low : length c.args.line.now < 2 ^ 63 = search rules in
    let high : c.in-Some.at < length c.loop-at.rest.now = c.in-Some.ensures.0.high in
    let few : length c.loop-at.rest.now ≤ length c.args.line.now = c.loop-at.invariant.few in
    omega arith

pub loop-at-preserved : goal.loop-at-preserved
loop-at-preserved c =
    let rest = c.loop-at.rest.now in
    let at = c.in-Some.at in
    rw (take_rest rest (at + 1)) (record {
      made = words_more rest at c.loop-at.rows c.push_word.new.rows (c.args.rows.now ++ counted_words c.args.line.now) (counted (take at rest ∷ [])) (counted_words (drop (at + 1) rest))
          (cut_some rest at c.in-Some.ensures.0.high c.in-Some.ensures.0.before c.in-Some.ensures.1) c.in_ok-push_word.ensures c.loop-at.invariant.made;
      is_record = drop_is_record (at + 1) rest c.loop-at.invariant.is_record;
      few = omega (arith, length-drop (at + 1) rest, c.loop-at.invariant.few);
    })

pub returns : goal.returns
returns c = c.in_ok-push_word-2.ensures ∙ ap (λ xs. c.loop-at.rows ++ xs) (sym (cut_none c.loop-at.rest.now c.in_default.ensures)) ∙ c.loop-at.invariant.made
