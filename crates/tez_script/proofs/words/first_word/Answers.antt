use Rattle.std.proofs.Common.{sym, ap, ◌∙◌, ◌∷◌, take}
use Rattle.std.proofs.lemmas.List.{take_rest, drop_more}
use Rattle.tez_record.proofs.SplitLemmas.{split_none, split_some}
use Rattle.tez_script.specs.Words.{words_behind}
use Rattle.tez_script.proofs.words.first_word.Goals as goal

pub returns-in-None : goal.returns-in-None
returns-in-None c = split_none 32 c.args.line.now c.in-None.ensures

pub returns-in-Some : goal.returns-in-Some
returns-in-Some c =
    split_some 32 c.args.line.now c.in-Some.at c.in-Some.ensures.0.high c.in-Some.ensures.0.before c.in-Some.ensures.1
    ∙ ap (λ xs. take c.in-Some.at c.args.line.now ∷ words_behind xs) (sym (take_rest c.args.line.now c.in-Some.at ∙ drop_more c.args.line.now c.in-Some.at 0 c.in-Some.ensures.0.high))
