use Rattle.std.proofs.Common.{◌≡◌, ◌++◌, take}
use Rattle.std.specs.List.{flat_map}
use Rattle.tez_task.specs.TaskState.{TaskState}
use Rattle.tez_core.specs.Lost.{lost_of}
use Rattle.tez_core.proofs.lost.add_lost_at.Given as goal

abbrev pub invariant-loop-index : goal.invariant-loop-index
invariant-loop-index l = l.found.items ≡ l.fn.found.items ++ flat_map (λ (t : TaskState). lost_of l.p l.locations l.slot t.winner) (take l.index l.x.tasks)
