use Rattle.tez_world_invariant.proofs.EndsBegin.{begun_store, opened_stands, none_named}
use Rattle.tez_world_invariant.proofs.begin.stores_are_found_clear.Goals as goal

pub returns : goal.returns
returns c = record { begins = begun_store; opens = opened_stands; clear = none_named }
