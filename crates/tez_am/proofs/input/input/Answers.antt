use Rattle.std.proofs.Common.{Err, ap}
use Rattle.tez_am.proofs.Contents.{content_whole, large_refusal, missing_refusal}
use Rattle.tez_am.proofs.input.input.Goals as goal

pub returns-in-Ok-clause-bytes : goal.returns-in-Ok-clause-bytes
returns-in-Ok-clause-bytes g c m t = content_whole _ _ _ m (c.in-Ok.ensures.whole m t) c.in-Ok.ensures.fits

pub returns-in-Err-Missing-clause-refusal : goal.returns-in-Err-Missing-clause-refusal
returns-in-Err-Missing-clause-refusal g c = missing_refusal _ _ _ _ (c.in-Err-Missing.ensures.missing (ap Err c.in-Err-Missing.field-0-is)) c.missing.ensures

pub returns-in-Err-TooLarge-clause-refusal : goal.returns-in-Err-TooLarge-clause-refusal
returns-in-Err-TooLarge-clause-refusal g c = large_refusal _ _ _ _ (c.in-Err-TooLarge.ensures.too_large (ap Err c.in-Err-TooLarge.field-0-is)) c.too_large.ensures
