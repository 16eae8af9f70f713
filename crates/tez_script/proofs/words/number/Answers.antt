use Rattle.std.proofs.Common.{◌<◌, ◌^◌, arith}
use Rattle.tez_record.proofs.FieldLemmas.{small}
use Rattle.tez_script.proofs.words.number.Goals as goal

pub overflow_mul-value : goal.overflow_mul-value
overflow_mul-value c = let low : c.loop-digit.value < 10 ^ 9 = small c.loop-digit.value c.loop-digit.digit-index 9 c.loop-digit.invariant.2 (omega arith) in omega arith

pub overflow_add-value : goal.overflow_add-value
overflow_add-value c = let low : c.loop-digit.value < 10 ^ 9 = small c.loop-digit.value c.loop-digit.digit-index 9 c.loop-digit.invariant.2 (omega arith) in omega (arith, c.from.ensures)

pub returns-clause-small : goal.returns-clause-small
returns-clause-small c = small c.loop-digit.value c.loop-digit.digit-index 10 c.loop-digit.invariant.2 (omega arith)
