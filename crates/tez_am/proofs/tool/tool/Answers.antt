use Rattle.std.proofs.Common.{sym}
use Rattle.tez_am.proofs.Tools.{usage_ends, checked_ends, meant_ends, rows_from_cause}
use Rattle.tez_am.proofs.tool.tool.Goals as goal

-- a check

pub returns-in-Some-clause-cause : goal.returns-in-Some-clause-cause
returns-in-Some-clause-cause g c = (checked_ends _ _ c.check.result c.ended.result c.say.result (sym c.in-Some.ensures) c.check.ensures.text c.check.ensures.refusal c.ended.ensures.text c.ended.ensures.refusal c.say.ensures.said).cause

pub returns-in-Some-clause-leaves : goal.returns-in-Some-clause-leaves
returns-in-Some-clause-leaves g c = (checked_ends _ _ c.check.result c.ended.result c.say.result (sym c.in-Some.ensures) c.check.ensures.text c.check.ensures.refusal c.ended.ensures.text c.ended.ensures.refusal c.say.ensures.said).leaves

pub returns-in-Some-clause-rows : goal.returns-in-Some-clause-rows
returns-in-Some-clause-rows g c = rows_from_cause _ _ (returns-in-Some-clause-cause g c)

-- a meaning

pub returns-in-Some-meaning_file-clause-cause : goal.returns-in-Some-meaning_file-clause-cause
returns-in-Some-meaning_file-clause-cause g c =
    (meant_ends _ _ c.meaning.result c.ended-in-Some-meaning_file.result c.say-in-Some-meaning_file.result (sym c.in_default.ensures) (sym c.in-Some-meaning_file.ensures)
    c.meaning.ensures.text c.meaning.ensures.refusal c.ended-in-Some-meaning_file.ensures.text c.ended-in-Some-meaning_file.ensures.refusal c.say-in-Some-meaning_file.ensures.said).cause

pub returns-in-Some-meaning_file-clause-leaves : goal.returns-in-Some-meaning_file-clause-leaves
returns-in-Some-meaning_file-clause-leaves g c =
    (meant_ends _ _ c.meaning.result c.ended-in-Some-meaning_file.result c.say-in-Some-meaning_file.result (sym c.in_default.ensures) (sym c.in-Some-meaning_file.ensures)
    c.meaning.ensures.text c.meaning.ensures.refusal c.ended-in-Some-meaning_file.ensures.text c.ended-in-Some-meaning_file.ensures.refusal c.say-in-Some-meaning_file.ensures.said).leaves

pub returns-in-Some-meaning_file-clause-rows : goal.returns-in-Some-meaning_file-clause-rows
returns-in-Some-meaning_file-clause-rows g c = rows_from_cause _ _ (returns-in-Some-meaning_file-clause-cause g c)

-- words that are no command

pub returns-clause-cause : goal.returns-clause-cause
returns-clause-cause g c = (usage_ends _ (sym c.in_default.ensures) (sym c.in_default-meaning_file.ensures) c.say-2.result c.say-2.ensures.said).cause

pub returns-clause-leaves : goal.returns-clause-leaves
returns-clause-leaves g c = (usage_ends _ (sym c.in_default.ensures) (sym c.in_default-meaning_file.ensures) c.say-2.result c.say-2.ensures.said).leaves

pub returns-clause-rows : goal.returns-clause-rows
returns-clause-rows g c = rows_from_cause _ _ (returns-clause-cause g c)
