use Rattle.std.proofs.Common.{rules, ◌+◌, sym, ap, ◌∙◌, ◌∷◌, take}
use Rattle.std.proofs.lemmas.List.{take_rest}
use Rattle.tez_record.specs.Line.{lines}
use Rattle.tez_record.proofs.BlockLemmas.{lines-none, lines-some}
use Rattle.tez_record.proofs.block.first_line.Goals as goal

pub returns-in-None : goal.returns-in-None
returns-in-None c = lines-none c.args.bytes.now (search rules) c.in-None.ensures

pub returns-in-Some : goal.returns-in-Some
returns-in-Some c = lines-some c.args.bytes.now c.in-Some.at c.in-Some.ensures.0.high c.in-Some.ensures.0.before c.in-Some.ensures.1 ∙ ap (λ xs. take c.in-Some.at c.args.bytes.now ∷ lines xs) (sym (take_rest c.args.bytes.now (c.in-Some.at + 1)))
