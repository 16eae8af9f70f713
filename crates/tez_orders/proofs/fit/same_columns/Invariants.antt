use Rattle.std.proofs.Common.{◌≡◌, true, take, bytes_eq}
use Rattle.std.specs.List.{list_all, list_any}
use Rattle.tez_operators.specs.Process.{is_vertex, columns_at}
use Rattle.tez_orders.proofs.fit.same_columns.Given as goal

abbrev pub invariant-loop-v : goal.invariant-loop-v
invariant-loop-v l = list_all (λ k. bytes_eq (columns_at l.keys 0) k.1) (take l._v-index l.keys) ≡ true
