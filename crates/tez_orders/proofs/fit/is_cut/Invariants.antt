use Rattle.std.proofs.Common.{◌≡◌, ◌==◌, false, take}
use Rattle.std.specs.List.{list_all, list_any}
use Rattle.tez_orders.proofs.fit.is_cut.Given as goal

abbrev pub invariant-loop-other : goal.invariant-loop-other
invariant-loop-other l = list_any (λ out. out.0.0 == l.edge.0) (take l.other-index l.outs) ≡ false
