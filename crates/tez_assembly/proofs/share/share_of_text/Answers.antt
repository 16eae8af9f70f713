use Rattle.std.proofs.Common.{inl, rules}
use Rattle.tez_record.proofs.BlockLemmas.{lines_fit}
use Rattle.tez_assembly.proofs.share.share_of_text.Goals as goal

pub count-n-requires-clause-fits : goal.count-n-requires-clause-fits
count-n-requires-clause-fits c = inl (lines_fit c.args.bytes.now c.new.result.rest.now c.new.ensures (search rules))
