use Rattle.tez_journal.proofs.ImageLemmas.{at_gate}
use Rattle.tez_journal.proofs.images_at_the_gate.Goals as goal

pub returns : goal.returns
returns c = λ old new more rs r gate g. at_gate old new more rs r gate g.fits
