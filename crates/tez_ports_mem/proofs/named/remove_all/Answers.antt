use Rattle.std.proofs.Common.{not, rules, bytes_eq}
use Rattle.std.proofs.lemmas.Fn.{filter_same}
use Rattle.tez_ports_mem.proofs.named.remove_all.Goals as goal

pub returns-clause-rest : goal.returns-clause-rest
returns-clause-rest c = filter_same _ (λ entry. not (bytes_eq entry.0 c.args.name.now)) _ (λ x b q h. search rules) _ _ c.retain.ensures.filtered
