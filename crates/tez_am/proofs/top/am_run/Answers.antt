use Rattle.std.proofs.Common.{refl, sym, inl, inr}
use Rattle.std.specs.Prelude.{reverse, map, string_bytes}
use Rattle.tez_am.proofs.Ending.{usage_ends, refused_ends, run_ends, run_stages, run_traced}
use Rattle.tez_am.proofs.RowLemmas.{rows_from_cause}
use Rattle.tez_am.proofs.top.am_run.Goals as goal

-- words that are no command

pub returns-in_default-clause-cause : goal.returns-in_default-clause-cause
returns-in_default-clause-cause g c = (usage_ends _ (sym c.in_default.ensures) refl c.say.result c.say.ensures.said).cause

pub returns-in_default-clause-headline : goal.returns-in_default-clause-headline
returns-in_default-clause-headline g c = (usage_ends _ (sym c.in_default.ensures) refl c.say.result c.say.ensures.said).leaves

pub returns-in_default-clause-text : goal.returns-in_default-clause-text
returns-in_default-clause-text g c = (usage_ends _ (sym c.in_default.ensures) refl c.say.result c.say.ensures.said).writing

pub returns-in_default-clause-rows : goal.returns-in_default-clause-rows
returns-in_default-clause-rows g c = rows_from_cause _ _ (returns-in_default-clause-cause g c)

-- a run

pub returns-in-Ok-clause-cause : goal.returns-in-Ok-clause-cause
returns-in-Ok-clause-cause g c = (run_ends _ _ c.in-Ok.job (sym c.in-Some.ensures) c.in-Ok.ensures.job c.run.result c.say-in-Ok.result c.run.ensures.text c.run.ensures.published c.run.ensures.cause c.run.ensures.failure_text c.say-in-Ok.ensures.said).cause

pub returns-in-Ok-clause-headline : goal.returns-in-Ok-clause-headline
returns-in-Ok-clause-headline g c = (run_ends _ _ c.in-Ok.job (sym c.in-Some.ensures) c.in-Ok.ensures.job c.run.result c.say-in-Ok.result c.run.ensures.text c.run.ensures.published c.run.ensures.cause c.run.ensures.failure_text c.say-in-Ok.ensures.said).leaves

pub returns-in-Ok-clause-text : goal.returns-in-Ok-clause-text
returns-in-Ok-clause-text g c = (run_ends _ _ c.in-Ok.job (sym c.in-Some.ensures) c.in-Ok.ensures.job c.run.result c.say-in-Ok.result c.run.ensures.text c.run.ensures.published c.run.ensures.cause c.run.ensures.failure_text c.say-in-Ok.ensures.said).writing

pub returns-in-Ok-clause-rows : goal.returns-in-Ok-clause-rows
returns-in-Ok-clause-rows g c = rows_from_cause _ _ (returns-in-Ok-clause-cause g c)

-- a refusal

pub returns-in-Err-clause-cause : goal.returns-in-Err-clause-cause
returns-in-Err-clause-cause g c = (refused_ends _ _ (sym c.in-Some.ensures) refl c.in-Err.refusal c.say-in-Err.result c.in-Err.ensures.refusal c.say-in-Err.ensures.said).cause

pub returns-in-Err-clause-headline : goal.returns-in-Err-clause-headline
returns-in-Err-clause-headline g c = (refused_ends _ _ (sym c.in-Some.ensures) refl c.in-Err.refusal c.say-in-Err.result c.in-Err.ensures.refusal c.say-in-Err.ensures.said).leaves

pub returns-in-Err-clause-text : goal.returns-in-Err-clause-text
returns-in-Err-clause-text g c = (refused_ends _ _ (sym c.in-Some.ensures) refl c.in-Err.refusal c.say-in-Err.result c.in-Err.ensures.refusal c.say-in-Err.ensures.said).writing

pub returns-in-Err-clause-rows : goal.returns-in-Err-clause-rows
returns-in-Err-clause-rows g c = rows_from_cause _ _ (returns-in-Err-clause-cause g c)

-- the trace

pub returns-in_default-clause-trace : goal.returns-in_default-clause-trace
returns-in_default-clause-trace g c = inl refl

pub returns-in-Err-clause-trace : goal.returns-in-Err-clause-trace
returns-in-Err-clause-trace g c = inl refl

pub returns-in-Ok-clause-trace : goal.returns-in-Ok-clause-trace
returns-in-Ok-clause-trace g c = inr (run_traced (map string_bytes c.args.words.now) _ (g.S.OutputStore.store c.run.new.store) c.say-in-Ok.result _ c.in-Ok.job c.in-Ok.conf c.run.new.log.entries (sym c.in-Some.ensures) c.in-Ok.ensures.job c.in-Ok.ensures.conf c.run.ensures.trace
    (run_stages _ _ c.in-Ok.job (reverse c.run.new.log.entries) c.run.result c.say-in-Ok.result c.run.ensures.staged c.run.ensures.cause c.say-in-Ok.ensures.said))
