use Rattle.std.proofs.Common.{◌≡◌, ◌≤◌, ◌*◌, ◌^◌, ◌-◌, ℕ, List, [], fold, length}
use Rattle.tez_record.specs.Line.{lines}
use Rattle.tez_operators.specs.Totals.{total_of, add_record, IsWithin}
use Rattle.tez_operators.proofs.totals.totals_by_key.Given as goal

abbrev pub invariant-loop-line : goal.invariant-loop-line
invariant-loop-line l = record {
  made : fold (add_record l.fn.cols l.fn.amount) l.totals.entries (lines l.line-iterator.rest.now) ≡ fold (add_record l.fn.cols l.fn.amount) [] l.fn.records;
  few : length (lines l.line-iterator.rest.now) ≤ length l.fn.records;
  small : (q : List ℕ) → IsWithin (2 ^ 63 * (length l.fn.records - length (lines l.line-iterator.rest.now))) (total_of l.totals.entries q);
}
