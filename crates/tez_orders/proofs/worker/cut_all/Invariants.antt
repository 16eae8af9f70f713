use Rattle.std.proofs.Common.{◌≡◌, take}
use Rattle.tez_orders.specs.Outcomes.{cut_of}
use Rattle.std.specs.List.{flat_map}
use Rattle.tez_orders.proofs.worker.cut_all.Given as goal

abbrev pub invariant-loop-edge : goal.invariant-loop-edge
invariant-loop-edge l = l.pieces ≡ flat_map (λ out. cut_of l.value out.0 out.1) (take l.edge-index l.outs)
