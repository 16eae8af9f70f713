use Rattle.tez_shelves.proofs.OrderLemmas.{start_is}
use Rattle.tez_shelves.proofs.marks.start_of.Goals as goal

pub returns-else-place-eq0 : goal.returns-else-place-eq0
returns-else-place-eq0 c = start_is c.args.table.now c.args.place _ c.if-place-eq0.false c.requires
