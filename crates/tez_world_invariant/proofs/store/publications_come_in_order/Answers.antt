use Rattle.tez_world_invariant.proofs.EndsStore.{store_published, store_tried, store_before_commit, store_processing}
use Rattle.tez_world_invariant.proofs.store.publications_come_in_order.Goals as goal

pub returns : goal.returns
returns c = record { published = store_published; tried = store_tried; before_commit = store_before_commit; processing = store_processing }
