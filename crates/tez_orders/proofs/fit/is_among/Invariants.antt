use Rattle.std.proofs.Common.{◌≡◌, false, take}
use Rattle.std.specs.List.{list_all, list_any}
use Rattle.tez_operators.specs.Process.{is_vertex, columns_at}
use Rattle.tez_orders.proofs.fit.is_among.Given as goal

abbrev pub invariant-loop-key : goal.invariant-loop-key
invariant-loop-key l = list_any (λ k. is_vertex k.0 l.vertex) (take l.key-index l.keys) ≡ false
