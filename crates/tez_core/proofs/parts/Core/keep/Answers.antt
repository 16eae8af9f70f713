use Rattle.std.proofs.Common.{◌≡◌, ◌∙◌, ap}
use Rattle.std.specs.Prelude.{true}
use Rattle.tez_ids.specs.declared.AttemptId.{AttemptId}
use Rattle.tez_master_model.specs.State.{MasterState}
use Rattle.tez_schedule.specs.State.{ScheduleState}
use Rattle.tez_schedule.specs.Table.{is_task}
use Rattle.tez_core.proofs.Taken.{still_task}
use Rattle.tez_core.proofs.parts.Core.keep.Goals as goal

pub win-requires : goal.win-requires
win-requires c =
    let a = c.attempt-a.result in
    let was : is_task c.self.inside.schedule a.task ≡ true =
    ap (λ (m : MasterState). is_task m.schedule a.task) c.self.view_is
    ∙ ap (λ (b : AttemptId). is_task c.args.self.now.schedule b.task) c.attempt-a.ensures
    ∙ c.requires.task in
    ap (λ (s : ScheduleState). is_task s a.task) c.schedule.ensures ∙ still_task c.self.inside.schedule a.task was
