use Rattle.std.proofs.Common.{◌≡◌, ◌++◌, take, drop, map, length}
use Rattle.tez_master_model.specs.Settled.{on_no_slot}
use Rattle.tez_core.proofs.locations.drop_each.Given as goal

abbrev pub invariant-loop-i : goal.invariant-loop-i
invariant-loop-i l = record {
  sized : length l.slots ≡ length l.fn.slots;
  dropped : l.slots ≡ map (on_no_slot l.slot) (take l.i l.fn.slots) ++ drop l.i l.fn.slots;
}
