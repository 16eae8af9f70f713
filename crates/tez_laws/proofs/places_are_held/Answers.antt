use Rattle.tez_laws.proofs.Joined.{places_agree}
use Rattle.tez_laws.proofs.places_are_held.Goals as goal

pub returns : goal.returns
returns c = places_agree
