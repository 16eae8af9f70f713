use Rattle.std.proofs.Common.{◌∙◌, sym, not, bytes_eq}
use Rattle.tez_plain.proofs.OrderLemmas.{no_place}
use Rattle.tez_plain.proofs.keyed.first_run.Goals as goal

pub returns-in-None-clause-value : goal.returns-in-None-clause-value
returns-in-None-clause-value c = no_place (λ e. not (bytes_eq e.0 c.args.key.now)) c.args.entries.now (sym c.other_at.ensures.value ∙ c.in-None.is)
