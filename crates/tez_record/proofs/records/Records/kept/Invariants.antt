use Rattle.std.proofs.Common.{◌≡◌, ℕ, List, ◌++◌, Bool}
use Rattle.std.specs.List.{filter}
use Rattle.tez_record.specs.Line.{lines}
use Rattle.tez_record.specs.Test.{IsTestOf}
use Rattle.tez_record.proofs.records.Records.kept.Given as goal

abbrev pub invariant-loop-line : goal.invariant-loop-line
invariant-loop-line g l =
    (goal.iterator-loop-line g).can_next l.line-iterator
    × (goal.iterator-loop-line g).is_finite l.line-iterator
    × ((p : List ℕ → Bool) → IsTestOf g.F.Fn l.test p → l.kept ++ filter p (lines l.line-iterator.rest.now) ≡ filter p l.fn.self)
