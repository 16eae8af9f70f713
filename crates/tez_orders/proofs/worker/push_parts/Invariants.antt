use Rattle.std.proofs.Common.{◌≡◌, ◌++◌, take}
use Rattle.tez_lists.specs.Tables.{each_from}
use Rattle.tez_orders.proofs.worker.push_parts.Given as goal

abbrev pub invariant-loop-part : goal.invariant-loop-part
invariant-loop-part l = record {
  number : l.output ≡ l.part-index;
  pieces : l.pieces ≡ l.initial.pieces ++ each_from 0 (λ p rs. (l.edge, p, rs)) (take l.part-index l.parts);
}
