-- The report of an order.
--     IsAtWork m at             the attempt is processing at this place of this node
--     staged_for g a bytes s    the store with these bytes of an attempt, where its vertex has a sink
--     IsDoneReport              what came of the report of an attempt that succeeded with this value
use Rattle.std.specs.Prelude.{◌≡◌, ◌/◌, ℕ, true, if◌then◌else◌, List, Some, None, slice_get}
use Rattle.tez_ids.specs.declared.AttemptId.{AttemptId}
use Rattle.tez_conf.specs.declared.values.ConfValues.{ConfValues}
use Rattle.tez_plan.specs.Dag.{Dag}
use Rattle.tez_ports.specs.Content.{Store, stages}
use Rattle.tez_meaning.specs.Jobs.{Job}
use Rattle.tez_history.specs.Shape.{has_sink}
use Rattle.tez_history.specs.History.{stage}
use Rattle.tez_history.specs.Derived.{is_processing}
use Rattle.tez_log.specs.Log.{LogState}
use Rattle.tez_pool.specs.Table.{place_held}
use Rattle.tez_master_model.specs.State.{MasterState}
use Rattle.tez_master_model.specs.Enabled.{why_in}
use Rattle.tez_steps.specs.declared.running.Running.{Running}
use Rattle.tez_steps.specs.declared.reporting.At.{At}
use Rattle.tez_steps.specs.declared.verdict.Device.TheVariants as device
use Rattle.tez_steps.specs.declared.verdict.Verdict.TheVariants.{Succeeded, SinkExists, AttemptsSpent, DeviceFault}
use Rattle.tez_steps.specs.declared.verdict.Took.{Took}
use Rattle.tez_steps.specs.declared.verdict.Took.TheVariants.{Changed, Ignored, Ended}
use Rattle.tez_orders.specs.declared.report.Outcome.{Outcome}
use Rattle.tez_steps.specs.Step.{ReportAdds}
use Rattle.tez_steps.specs.Holds.{parts_of, Holds}
use Rattle.tez_steps.specs.Parts.{SameLog}

pub record IsAtWork (m : MasterState) (at : At) : Type 0 where
  pub works : why_in m at.a ≡ None
  pub held : place_held m.pool.places at.a ≡ Some at.place
  pub slot : at.node.slot ≡ at.place / m.pool.per_node
  pub life : slice_get m.pool.lives at.node.slot ≡ Some at.node.life

abbrev pub staged_for : Dag → AttemptId → List ℕ → Store → Store
staged_for g a bytes s = if has_sink g a.task.vertex.0 then stages a bytes s else s

abbrev pub IsDoneReport : Job → ConfValues → AttemptId → Outcome → Running → LogState → Took → Running → LogState → Type 0
IsDoneReport job c a outcome r log Changed after then_log =
    (is_processing (stage a log.past) ≡ true)
    × ReportAdds job c log.past a outcome then_log.past
    × Holds job c (parts_of after) then_log.past
IsDoneReport job c a outcome r log (Ignored why) after then_log = ⊥
IsDoneReport job c a outcome r log (Ended (DeviceFault d)) after then_log = (d ≡ device.Store) × SameLog log then_log
IsDoneReport job c a outcome r log (Ended (Succeeded pairs)) after then_log = ⊥
IsDoneReport job c a outcome r log (Ended (SinkExists v)) after then_log = ⊥
IsDoneReport job c a outcome r log (Ended (AttemptsSpent t)) after then_log = ⊥
