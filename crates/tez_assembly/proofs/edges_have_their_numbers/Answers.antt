use Rattle.tez_assembly.proofs.EdgeLemmas.{number_same}
use Rattle.tez_assembly.proofs.edges_have_their_numbers.Goals as goal

pub returns : goal.returns
returns c = number_same
