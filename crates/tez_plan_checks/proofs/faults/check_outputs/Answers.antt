use Rattle.std.proofs.Common.{◌≡◌, ◌==◌, ◌&&◌, not, length, sym}
use Rattle.std.specs.Prelude.{is_none}
use Rattle.tez_plan.specs.Dag.{from, to, edges_from, tasks_of, is_one_to_one}
use Rattle.tez_plan.specs.Faults.{partitions_differ, leaf_without_sink}
use Rattle.tez_plan.proofs.CheckLemmas.{partitions_pass, partitions_fault, leaves_pass, leaves_fault}
use Rattle.tez_plan_checks.proofs.FindLemmas.{find_first, vertices_nowhere, edges_nowhere}
use Rattle.tez_plan_checks.proofs.faults.check_outputs.Goals as goal

pub returns-in-Some-clause-fault : goal.returns-in-Some-clause-fault
returns-in-Some-clause-fault c = λ _. let p = c.args.graph.now in
    partitions_fault p c.in-Some.e c.requires (find_first (partitions_differ p) (length p.edges) c.in-Some.e (sym c.in-Some.ensures.first))

pub returns-in-Some-first_open_leaf-clause-fault : goal.returns-in-Some-first_open_leaf-clause-fault
returns-in-Some-first_open_leaf-clause-fault c = λ _. let p = c.args.graph.now in
    let same = partitions_pass p c.requires (edges_nowhere p (λ n s. is_one_to_one s && not (tasks_of p (from p s) == tasks_of p (to p s))) (sym c.in_default.ensures.first)) in
    leaves_fault p c.in-Some-first_open_leaf.v same (find_first (leaf_without_sink p) (length p.vertices) _ (sym c.in-Some-first_open_leaf.ensures.first))

pub returns-clause-passes : goal.returns-clause-passes
returns-clause-passes c = let p = c.args.graph.now in
    let same = partitions_pass p c.requires (edges_nowhere p (λ n s. is_one_to_one s && not (tasks_of p (from p s) == tasks_of p (to p s))) (sym c.in_default.ensures.first)) in
    leaves_pass p same (vertices_nowhere p (λ v s. length (edges_from p v) == 0 && is_none s.sink) (sym c.in_default-first_open_leaf.ensures.first))
