use Rattle.std.proofs.Common.{◌≡◌, true, take}
use Rattle.std.specs.List.{list_all, list_any}
use Rattle.tez_operators.specs.Process.{is_vertex, columns_at}
use Rattle.tez_orders.proofs.fit.come_from.Given as goal

abbrev pub invariant-loop-vertex : goal.invariant-loop-vertex
invariant-loop-vertex l = list_all (λ part. list_any (λ k. is_vertex k.0 part.0) l.keys) (take l.vertex-index l.primary) ≡ true
