use Rattle.tez_am.proofs.Meanings.{meant_bad, meant_text, parts_are}
use Rattle.tez_am.proofs.mean.meaning_text.Goals as goal

pub returns-in-Ok-text_of-clause-text : goal.returns-in-Ok-text_of-clause-text
returns-in-Ok-text_of-clause-text c = meant_text c.args.job.now _ c.in-Ok.ensures.defined (parts_are c.args.job.now _ _ _ c.in-Ok-text_of.ensures c.deref.ensures.value c.in-Ok.ensures.texts)

pub returns-in-Ok-text_of-clause-kind : goal.returns-in-Ok-text_of-clause-kind
returns-in-Ok-text_of-clause-kind c = parts_are c.args.job.now _ _ _ c.in-Ok-text_of.ensures c.deref.ensures.value c.in-Ok.ensures.texts

pub returns-in-Err-Bad-clause-undefined : goal.returns-in-Err-Bad-clause-undefined
returns-in-Err-Bad-clause-undefined c = meant_bad c.args.job.now _ c.in-Err-Bad.vertex _ c.in-Err-Bad.field-0-is c.in-Err-Bad.ensures.bad c.undefined.ensures
