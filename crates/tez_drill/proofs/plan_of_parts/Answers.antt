use Rattle.std.specs.Prelude.{◌≡◌, ◌≢◌}
use Rattle.std.proofs.Common.{subst, sym}
use Rattle.std.proofs.lemmas.Result.{IfErr-weaker}
use Rattle.tez_plan.specs.Dag.{dag_of}
use Rattle.tez_plan.specs.declared.fault.PlanFault.TheVariants.{NoMemory}
use Rattle.tez_plan.proofs.CheckLemmas.{no_fault}
use Rattle.tez_plan.specs.Faults.{IsFirstFault}
use Rattle.tez_plan.specs.Ranges.{IsInRanges}
use Rattle.tez_drill.specs.Drill.{drill_plan}
use Rattle.tez_drill.proofs.Valid.{drill_in_ranges, drill_is_valid, only_memory, same_plan}
use Rattle.tez_drill.proofs.plan_of_parts.Goals as goal

pub plan_new-requires : goal.plan_new-requires
plan_new-requires c =
    subst IsInRanges (sym (same_plan c.args.name c.args.vertices.items c.args.edges.items c.requires.name c.requires.vertices c.requires.edges)) drill_in_ranges

pub returns-clause-fault : goal.returns-clause-fault
returns-clause-fault c =
    let same = same_plan c.args.name c.args.vertices.items c.args.edges.items c.requires.name c.requires.vertices c.requires.edges in
    IfErr-weaker c.plan_new.result (λ f. f ≢ NoMemory → IsFirstFault (dag_of c.args.name c.args.vertices.items c.args.edges.items) f) (λ f. f ≡ NoMemory)
    (λ f first. only_memory f (λ other. no_fault drill_plan f drill_is_valid (subst (λ p. IsFirstFault p f) same (first other))))
    c.plan_new.ensures.fault
