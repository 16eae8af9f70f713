use Rattle.tez_vman.proofs.RuleLemmas.{starts_all}
use Rattle.tez_vman.proofs.manager.sources_finished.Goals as goal

pub returns : goal.returns
returns c = starts_all
