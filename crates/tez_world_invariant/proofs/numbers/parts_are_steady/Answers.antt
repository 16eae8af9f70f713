use Rattle.tez_world_invariant.proofs.PartsNumbers.{parts_steady}
use Rattle.tez_world_invariant.proofs.numbers.parts_are_steady.Goals as goal

pub returns : goal.returns
returns c = parts_steady
