use Rattle.std.proofs.Common.{◌≡◌, ◌∙◌, Ok, Err, sym, ap}
use Rattle.tez_am.specs.Accept.{source_limit, with_sources}
use Rattle.tez_am.specs.Sources.{contents_after}
use Rattle.tez_am.proofs.Accepting.{refusal_from}
use Rattle.tez_am.proofs.SourceLemmas.{whole_contents, whole_names}
use Rattle.tez_am.proofs.sources.job_of.Goals as goal

pub new-requires-in-Ok : goal.new-requires-in-Ok
new-requires-in-Ok g c = whole_names c.args.plan c.in-Ok.sources.items _ _ c.new.ensures.items c.vertices.ensures.same c.in-Ok.ensures.names

pub returns-in-Ok-clause-job : goal.returns-in-Ok-clause-job
returns-in-Ok-clause-job g c m told = whole_contents m c.args.plan _ _ (Ok c.in-Ok.sources.items) c.new.ensures.items c.vertices.ensures.same (c.in-Ok.ensures.read m told) ∙ ap Ok (sym c.new-in-Ok.ensures)

pub returns-in-Err-clause-refusal : goal.returns-in-Err-clause-refusal
returns-in-Err-clause-refusal g c =
    refusal_from (λ m a. contents_after m source_limit c.new.result.items c.vertices.result.now ≡ a) (λ m a. with_sources m c.args.plan ≡ a) _ c.in-Err.refusal
    (λ m r is. whole_contents m c.args.plan _ _ (Err r) c.new.ensures.items c.vertices.ensures.same is) c.in-Err.ensures.refusal
