use Rattle.tez_master_model.proofs.Restorable.{new_fresh, configured_fresh, carried_fresh, kept_fresh}
use Rattle.tez_vertex_view.proofs.tasks_may_be_restored.Goals as goal

pub returns : goal.returns
returns c = record {
  new = new_fresh;
  configured = configured_fresh;
  carried = carried_fresh;
  kept = kept_fresh;
}
