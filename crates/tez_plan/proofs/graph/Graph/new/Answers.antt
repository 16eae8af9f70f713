use Rattle.std.proofs.Common.{◌≡◌, ◌≢◌, ◌∙◌, ⊎_elim, [], sym, ap, subst, length, ◌≤◌, false}
use Rattle.tez_plan.specs.Dag.{Dag, dag_of}
use Rattle.tez_plan.specs.Faults.{IsFirstFault, IsNowhere, Passes, duplicate_name}
use Rattle.tez_plan.proofs.CheckLemmas.{no_passes, few_parts, sizes_pass, names_pass, ends_pass, sizes_fault, names_fault, ends_fault}
use Rattle.tez_plan.proofs.RankLemmas.{edges_inside, known_everywhere}
use Rattle.tez_plan.proofs.graph.Graph.new.Goals as goal

few_passes : (p : Dag) → length p.vertices ≤ 64 → length p.edges ≤ 256 → Passes 1 p
few_passes p vertices edges = sizes_pass p (no_passes p) (few_parts p vertices edges)

pub returns-in-Err-clause-fault : goal.returns-in-Err-clause-fault
returns-in-Err-clause-fault c = λ _.
    let p = dag_of c.args.name c.args.vertices.items c.args.edges.items in
    let first = rw (c.deref.ensures.value, c.deref-2.ensures.value) at c.in-Err.ensures.fault in
    subst (IsFirstFault p) (sym first.2) (sizes_fault p first.0 (no_passes p) first.1)

pub returns-in-Err-numbered_ends-clause-fault : goal.returns-in-Err-numbered_ends-clause-fault
returns-in-Err-numbered_ends-clause-fault c = λ other.
    let p = dag_of c.args.name c.args.vertices.items c.args.edges.items in
    let few = rw (c.deref.ensures.value, c.deref-2.ensures.value) at c.in_default.ensures.few in
    let passes = few_passes p few.0 few.1 in
    let found = (rw (c.deref-3.ensures.value, c.deref-4.ensures.value) at c.in-Err-numbered_ends.ensures.fault) other in
    ⊎_elim
    (λ names. let first = names other in subst (IsFirstFault p) (sym first.2) (names_fault p first.0 passes first.1))
    (λ ends. let first = ends.1 other in subst (IsFirstFault p) (sym first.2) (ends_fault p first.0 (names_pass p passes ends.0) first.1))
    found

pub returns-in-Ok-clause-passes : goal.returns-in-Ok-clause-passes
returns-in-Ok-clause-passes c =
    let p = dag_of c.args.name c.args.vertices.items c.args.edges.items in
    let few = rw (c.deref.ensures.value, c.deref-2.ensures.value) at c.in_default.ensures.few in
    let own = rw c.deref-3.ensures.value at c.in-Ok.ensures.own in
    let known = rw (c.deref-3.ensures.value, c.deref-4.ensures.value) at c.in-Ok.ensures.known in
    ends_pass p (names_pass p (few_passes p few.0 few.1) own) known

pub invariant_of-result : goal.invariant_of-result
invariant_of-result c =
    let p = dag_of c.args.name c.args.vertices.items c.args.edges.items in
    let few = rw (c.deref.ensures.value, c.deref-2.ensures.value) at c.in_default.ensures.few in
    let known = rw (c.deref-3.ensures.value, c.deref-4.ensures.value) at c.in-Ok.ensures.known in
    let ends = rw (c.deref-3.ensures.value, c.deref-4.ensures.value) at c.in-Ok.ensures.ends in
    record {
      ends_are = ends;
      inside = edges_inside p (known_everywhere p known);
      few_vertices = few.0;
      few_edges = few.1;
    }
