use Rattle.std.proofs.Common.{not, rules}
use Rattle.std.proofs.lemmas.Fn.{filter_same}
use Rattle.tez_ids.specs.Same.{same_attempt}
use Rattle.tez_ports_mem.proofs.staged.remove_all.Goals as goal

pub returns-clause-rest : goal.returns-clause-rest
returns-clause-rest c = filter_same _ (λ entry. not (same_attempt entry.0 c.args.attempt)) _ (λ x b q h. search rules) _ _ c.retain.ensures.filtered
