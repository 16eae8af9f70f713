use Rattle.tez_world_invariant.proofs.EndsStore.{store_event}
use Rattle.tez_world_invariant.proofs.store.events_leave_the_store.Goals as goal

pub returns : goal.returns
returns c = store_event
