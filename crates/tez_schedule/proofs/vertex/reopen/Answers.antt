use Rattle.std.proofs.Common.{◌<◌, ◌∙◌, ap, arith, get_or, set, length, false}
use Rattle.std.proofs.lemmas.List.{length-set, get_or_default}
use Rattle.tez_lists.proofs.Tables.{each_more}
use Rattle.tez_schedule.specs.Table.{open_by}
use Rattle.tez_schedule.proofs.vertex.reopen.Goals as goal

pub loop-task-preserved : goal.loop-task-preserved
loop-task-preserved c =
    let now = c.loop-task.open_tasks in
    let i = c.loop-task.task in
    let inv = c.loop-task.invariant in
    let stored = c.set.ensures ∙ ap (set now i) c.is_open.ensures in
    let within : i < length c.args.open_tasks.now = omega (arith, c.requires) in
    let there : i < length now = omega (arith, inv.sized) in
    record {
      sized = ap length stored ∙ length-set now i (open_by c.args.config c.args.fed.now c.args.scheduled.now i) ∙ inv.sized;
      opened = stored ∙ each_more (λ j _. open_by c.args.config c.args.fed.now c.args.scheduled.now j) c.args.open_tasks.now now i (get_or now i false) within inv.opened (get_or_default now i false (get_or now i false) there);
    }

pub set-requires : goal.set-requires
set-requires c = omega (arith, c.loop-task.invariant.sized, c.requires)
