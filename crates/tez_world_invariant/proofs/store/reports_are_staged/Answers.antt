use Rattle.tez_world_invariant.proofs.EndsStore.{store_staging, store_report, store_was_staged, store_no_sink}
use Rattle.tez_world_invariant.proofs.store.reports_are_staged.Goals as goal

pub returns : goal.returns
returns c = record { staging = store_staging; staged = store_report; was_staged = store_was_staged; no_sink = store_no_sink }
