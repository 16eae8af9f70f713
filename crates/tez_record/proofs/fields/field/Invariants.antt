use Rattle.std.proofs.Common.{◌≡◌, drop}
use Rattle.tez_record.specs.Field.{fields}
use Rattle.tez_record.proofs.fields.field.Given as goal

abbrev pub invariant-loop-skipped : goal.invariant-loop-skipped
invariant-loop-skipped l = drop l._skipped (fields l.fn.r) ≡ fields l.rest
