use Rattle.std.proofs.Common.{◌≡◌, ◌++◌, take}
use Rattle.tez_record.specs.Field.{key}
use Rattle.tez_record.proofs.fields.push_fields.Given as goal

abbrev pub invariant-loop-n : goal.invariant-loop-n
invariant-loop-n l = l.buffer.items ≡ l.initial.buffer.items ++ key (take l.n l.cols) l.r
