use Rattle.std.proofs.Common.{◌≡◌, ◌++◌, ℕ, List}
use Rattle.std.specs.List.{filter}
use Rattle.tez_record.specs.Line.{lines}
use Rattle.tez_values.specs.Heads.{has_key}
use Rattle.tez_operators.specs.Groups.{group_of}
use Rattle.tez_operators.proofs.groups.groups_by_key.Given as goal

abbrev pub invariant-loop-line : goal.invariant-loop-line
invariant-loop-line l = (k : List ℕ) → group_of l.groups.entries k ++ filter (has_key l.fn.cols k) (lines l.line-iterator.rest.now) ≡ filter (has_key l.fn.cols k) l.fn.records
