use Rattle.std.proofs.Common.{rules, refl}
use Rattle.tez_record.proofs.BlockLemmas.{ended, IsText-kept}
use Rattle.tez_record.proofs.block.push_end.Goals as goal

pub returns-then-index-eq10 : goal.returns-then-index-eq10
returns-then-index-eq10 c = (IsText-kept c.args.bytes.now.items c.len-n.result c.index.result.now (search rules) c.if-n-eq0.false c.index.ensures c.if-index-eq10.true, refl)

pub returns : goal.returns
returns c = rw c.in_ok-push.ensures.items (ended c.args.bytes.now.items c.len-n.result c.index.result.now (search rules) c.if-n-eq0.false c.index.ensures c.if-index-eq10.false)
