use Rattle.tez_world_invariant.proofs.EndsStore.{winners_staged, winners_merged, text_found, store_prepared, store_ready, store_publish, store_purge, tasks_stored}
use Rattle.tez_world_invariant.proofs.store.sinks_are_stored.Goals as goal

pub returns : goal.returns
returns c = record { staged = winners_staged; merged = winners_merged; found = text_found; prepared = store_prepared; ready = store_ready; publish = store_publish; purge = store_purge; whole = tasks_stored }
