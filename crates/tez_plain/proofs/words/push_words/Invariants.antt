use Rattle.std.proofs.Common.{◌≡◌, ◌++◌, length}
use Rattle.tez_record.specs.Line.{IsRecord}
use Rattle.tez_plain.specs.Words.{counted_words}
use Rattle.tez_plain.proofs.words.push_words.Given as goal

abbrev pub invariant-loop-word : goal.invariant-loop-word
invariant-loop-word l = record {
  made : l.rows ++ counted_words l.rest ≡ l.initial.rows ++ counted_words l.fn.line;
  is_record : IsRecord l.rest;
}

abbrev pub decreases-loop-word : goal.decreases-loop-word
decreases-loop-word l = length l.rest
