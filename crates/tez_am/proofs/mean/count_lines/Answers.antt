use Rattle.std.proofs.Common.{inl, rules}
use Rattle.tez_record.proofs.BlockLemmas.{lines_fit}
use Rattle.tez_am.proofs.mean.count_lines.Goals as goal

pub count-requires-clause-fits : goal.count-requires-clause-fits
count-requires-clause-fits c = inl (lines_fit c.args.bytes.now c.new.result.rest.now c.new.ensures (search rules))
