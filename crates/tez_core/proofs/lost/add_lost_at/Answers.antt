use Rattle.std.proofs.Common.{◌≤◌, ◌++◌, ◌∙◌, List, ap, arith, length}
use Rattle.std.specs.List.{flat_map}
use Rattle.tez_task.specs.TaskState.{TaskState}
use Rattle.tez_core.specs.Lost.{lost_of}
use Rattle.tez_core.proofs.Firsts.{all_taken}
use Rattle.tez_core.proofs.LostLemmas.{part_more}
use Rattle.tez_core.proofs.lost.add_lost_at.Goals as goal

pub loop-index-preserved : goal.loop-index-preserved
loop-index-preserved c =
    part_more (lost_of c.args.p.now c.args.locations.now c.args.slot) (λ (t : TaskState). t.winner) c.args.x.now.tasks c.args.found.now.items c.loop-index.found.items c.add_lost.new.found.items c.loop-index.index
    c.winner.result c.winner.ensures c.loop-index.invariant c.in_ok-add_lost.ensures

pub returns : goal.returns
returns c =
    let tasks = c.args.x.now.tasks in
    let i = c.loop-index.index in
    let past : length tasks ≤ i = omega (arith, c.tasks-index-end.ensures, c.loop-index-test.false) in
    c.loop-index.invariant ∙ ap (λ (ts : List TaskState). c.args.found.now.items ++ flat_map (λ (t : TaskState). lost_of c.args.p.now c.args.locations.now c.args.slot t.winner) ts) (all_taken tasks i past)
