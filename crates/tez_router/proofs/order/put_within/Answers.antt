use Rattle.std.proofs.Common.{sym, subst}
use Rattle.std.specs.List.{AllByRecursion}
use Rattle.tez_router.specs.Edges.{AreInto}
use Rattle.tez_router.proofs.order.put_within.Goals as goal

pub returns-clause-into : goal.returns-clause-into
returns-clause-into c links here all = c.put.ensures.into links here (subst (AllByRecursion (AreInto links)) (sym c.moved-all.ensures.items) all)
