use Rattle.tez_world_invariant.proofs.PartsInputs.{fetch_placed, piece_there, piece_gone}
use Rattle.tez_world_invariant.proofs.inputs.shelves_have_the_piece.Goals as goal

pub returns-clause-placed : goal.returns-clause-placed
returns-clause-placed c = fetch_placed

pub returns-clause-there : goal.returns-clause-there
returns-clause-there c = piece_there

pub returns-clause-gone : goal.returns-clause-gone
returns-clause-gone c = piece_gone
