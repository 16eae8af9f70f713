use Rattle.std.proofs.Common.{◌≡◌, ◌≤◌, ◌++◌, length}
use Rattle.tez_record.specs.Line.{IsRecord}
use Rattle.tez_operators.specs.Words.{counted_words}
use Rattle.tez_operators.proofs.words.push_words.Given as goal

abbrev pub invariant-loop-at : goal.invariant-loop-at
invariant-loop-at l = record {
  made : l.rows ++ counted_words l.rest ≡ l.initial.rows ++ counted_words l.fn.line;
  is_record : IsRecord l.rest;
  few : length l.rest ≤ length l.fn.line;
}

abbrev pub decreases-loop-at : goal.decreases-loop-at
decreases-loop-at l = length l.rest
