use Rattle.tez_journal.proofs.ImageLemmas.{behind}
use Rattle.tez_journal.proofs.images_behind_the_gate.Goals as goal

pub returns : goal.returns
returns c = behind
