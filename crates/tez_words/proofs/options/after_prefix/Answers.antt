use Rattle.tez_words.proofs.Prefixes.{stripped}
use Rattle.tez_words.proofs.options.after_prefix.Goals as goal

pub returns : goal.returns
returns c = stripped c.args.prefix.now c.args.word.now c.strip_prefix.result c.strip_prefix.ensures.cases
