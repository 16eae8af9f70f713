use Rattle.std.proofs.Common.{◌≡◌, ◌++◌, ◌≤◌, length, flat_map}
use Rattle.std.specs.List.{AllByRecursion}
use Rattle.tez_trace.specs.Reading.{FitsEntry}
use Rattle.tez_trace.specs.Text.{with_end}
use Rattle.tez_trace.proofs.read.read_lines.Given as goal

abbrev pub invariant-loop-end : goal.invariant-loop-end
invariant-loop-end l = record {
  fit : AllByRecursion FitsEntry l.trace.entries;
  text : flat_map with_end l.trace.entries ++ l.rest ≡ l.bytes;
  few : length l.rest ≤ length l.bytes;
}

abbrev pub decreases-loop-end : goal.decreases-loop-end
decreases-loop-end l = length l.rest
