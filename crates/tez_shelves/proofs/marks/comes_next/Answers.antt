use Rattle.tez_shelves.proofs.OrderLemmas.{order_added}
use Rattle.tez_shelves.proofs.marks.comes_next.Goals as goal

pub returns-else-many-eq0 : goal.returns-else-many-eq0
returns-else-many-eq0 c = λ yes order. order_added c.args.table.now c.args.next _ c.if-many-eq0.false order (c.is_before.ensures yes)
