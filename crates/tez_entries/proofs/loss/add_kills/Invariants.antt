use Rattle.std.proofs.Common.{◌≡◌, ◌++◌, take}
use Rattle.std.specs.List.{flat_map}
use Rattle.tez_master_model.specs.Entries.{kill_in}
use Rattle.tez_entries.proofs.loss.add_kills.Given as goal

abbrev pub invariant-loop-a : goal.invariant-loop-a
invariant-loop-a l = l.entries.items ≡ l.fn.entries.items ++ flat_map (kill_in l.m) (take l.a-index l.held)
