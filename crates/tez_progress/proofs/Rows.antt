-- What a new master finds has to fit the plan: a run whose master found a vertex without a task is stuck.
use Rattle.std.specs.Prelude.{◌≡◌, true, [], ◌∷◌, Some, None, refl}
use Rattle.tez_plan.specs.Dag.{Dag}
use Rattle.tez_plan.specs.Order.{depth}
use Rattle.tez_plan.specs.declared.parts.VertexSpec.{VertexSpec}
use Rattle.tez_plan.specs.declared.parts.Head.TheVariants.{Each}
use Rattle.tez_plan.specs.declared.parts.Movement.TheVariants.{ScatterGather}
use Rattle.tez_conf.specs.declared.values.ConfValues.{ConfValues}
use Rattle.tez_vman.specs.Rules.{config as shape}
use Rattle.tez_history.specs.History.{is_up}
use Rattle.tez_history.specs.Steps.{choice}
use Rattle.tez_history.specs.Runs.{Run, Unfinished, Start, run, not_begun}

abbrev reads : VertexSpec
reads = record { name = 0 ∷ []; tasks = 1; source = Some (9 ∷ []); head = Each; steps = []; sink = None }

abbrev gathers : VertexSpec
gathers = record { name = 1 ∷ []; tasks = 1; source = None; head = Each; steps = []; sink = Some (8 ∷ []) }

abbrev plan : Dag
plan = record { name = []; vertices = reads ∷ gathers ∷ []; edges = record { source = 0 ∷ []; target = 1 ∷ []; movement = ScatterGather (0 ∷ []) } ∷ [] }

abbrev conf : ConfValues
conf = record { min_src = 250; max_src = 750; auto_parallel = true; desired_bytes = 100; min_tasks = 1; max_failed = 4; max_masters = 2; reuse = true; nodes = 1; per_node = 1 }

abbrev found_no_task : Run
found_no_task = run plan conf not_begun (Start (Unfinished (record { epoch = 1; configured = (0, shape 0 1) ∷ []; failed = []; kept = [] })) ∷ [])

is_stuck : choice plan conf found_no_task.past ≡ None
unfolding depth
is_stuck = refl

yet_up : is_up found_no_task.past ≡ true
yet_up = refl

not_ended : found_no_task.verdict ≡ None
not_ended = refl
