use Rattle.std.proofs.Common.{arith}
use Rattle.tez_words.proofs.Numbers.{no_number}
use Rattle.tez_words.proofs.digits.number.Goals as goal

pub returns-in-Err : goal.returns-in-Err
returns-in-Err c = no_number c.args.digits c.args.least c.args.most c.args.word.now c.in-Err.field-0 (omega (arith, c.ranges.most.fits)) c.in-Err.ensures.value.0
