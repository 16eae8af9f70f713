use Rattle.std.proofs.Common.{◌≡◌, ◌++◌, take, drop, map, length}
use Rattle.tez_master_model.specs.Settled.{on_no_slot}
use Rattle.tez_core.proofs.locations.drop_slot.Given as goal

abbrev pub invariant-loop-v : goal.invariant-loop-v
invariant-loop-v l = record {
  sized : length l.locations ≡ length l.fn.locations;
  dropped : l.locations ≡ map (map (on_no_slot l.slot)) (take l.v l.fn.locations) ++ drop l.v l.fn.locations;
}
