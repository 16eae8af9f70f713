use Rattle.std.proofs.Common.{◌≡◌, ◌++◌, map, take}
use Rattle.tez_values.specs.Heads.{beside}
use Rattle.tez_plain.specs.Keyed.{records_in}
use Rattle.tez_plain.proofs.pairs.push_pairs.Given as goal

abbrev pub invariant-loop-entry : goal.invariant-loop-entry
invariant-loop-entry l = l.rows ≡ l.initial.rows ++ map (beside l.fn.left) (records_in (take l.entry-index l.fn.run))
