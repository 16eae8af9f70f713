use Rattle.std.proofs.Common.{◌≡◌, ◌++◌, take}
use Rattle.std.specs.List.{flat_map}
use Rattle.tez_standing.specs.Progress.{failures_of}
use Rattle.tez_standing.proofs.rows.list_failures.Given as goal

abbrev pub invariant-loop-row : goal.invariant-loop-row
invariant-loop-row l = l.to.items ≡ l.fn.to.items ++ flat_map failures_of (take l.row-index l.rows)
