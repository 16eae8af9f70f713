use Rattle.tez_am.proofs.Meanings.{means, undefined_at, unread}
use Rattle.tez_am.proofs.mean.meaning.Goals as goal

pub returns-in-Err-clause-refusal : goal.returns-in-Err-clause-refusal
returns-in-Err-clause-refusal g c = unread _ _ _ c.in-Err.ensures.refusal

pub returns-in-Ok-meaning_text-clause-text : goal.returns-in-Ok-meaning_text-clause-text
returns-in-Ok-meaning_text-clause-text g c = means _ _ c.in-Ok.said.0 _ c.in-Ok.ensures.valid c.in-Ok-meaning_text.ensures.defined c.in-Ok-meaning_text.ensures.kind c.in-Ok-meaning_text.ensures.text c.in-Ok.ensures.job

pub returns-clause-refusal : goal.returns-clause-refusal
returns-clause-refusal g c = undefined_at _ _ c.in-Ok.said.0 _ c.in-Ok.ensures.job c.in-Err-meaning_text.ensures.undefined
