use Rattle.std.proofs.Common.{◌≡◌, take}
use Rattle.tez_schedule.specs.Table.{bytes_for}
use Rattle.tez_schedule.proofs.changes.bytes_for.Given as goal

abbrev pub invariant-loop-m : goal.invariant-loop-m
invariant-loop-m l = l.bytes ≡ bytes_for l.e.0 (take l.m-index l.made)
