use Rattle.std.proofs.Common.{◌∙◌, ◌+◌, sym}
use Rattle.std.proofs.lemmas.List.{take_rest}
use Rattle.tez_plain.proofs.WordLemmas.{first_cut, no_cut}
use Rattle.tez_plain.proofs.words.first_word.Goals as goal

pub returns-in-None : goal.returns-in-None
returns-in-None c = no_cut c.args.bytes.now (sym c.word_end.ensures.value ∙ c.in-None.is)

pub returns-in-Some : goal.returns-in-Some
returns-in-Some c = first_cut c.args.bytes.now _ c.in-Some.end c.requires (sym c.word_end.ensures.value ∙ c.in-Some.is) c.in-Some.ensures.bound (take_rest c.args.bytes.now (c.in-Some.end + 1))
