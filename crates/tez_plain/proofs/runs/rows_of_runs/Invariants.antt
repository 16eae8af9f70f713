use Rattle.std.proofs.Common.{length, drop, ◌≤◌, ◌-◌}
use Rattle.tez_plain.specs.Runs.{rows_of}
use Rattle.tez_plain.proofs.RowLemmas.{IsWalk}
use Rattle.tez_plain.proofs.runs.rows_of_runs.Given as goal

abbrev pub invariant-loop-first : goal.invariant-loop-first
invariant-loop-first l = record {
  walk : IsWalk l.fn.says (rows_of l.fn.says l.fn.entries) l.rows (drop l.start l.fn.entries);
  few : l.start ≤ length l.fn.entries;
}

abbrev pub decreases-loop-first : goal.decreases-loop-first
decreases-loop-first l = length l.fn.entries - l.start
