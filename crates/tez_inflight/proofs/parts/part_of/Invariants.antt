use Rattle.std.proofs.Common.{◌≡◌, take, false}
use Rattle.std.specs.List.{list_any}
use Rattle.tez_inflight.specs.Held.{is_over}
use Rattle.tez_inflight.proofs.parts.part_of.Given as goal

abbrev pub invariant-loop-i : goal.invariant-loop-i
invariant-loop-i l = list_any (is_over l.edge) (take l.i l.parts) ≡ false
