use Rattle.std.proofs.Common.{◌≡◌, ◌+◌, ◌==◌, ℕ, not, length, sym}
use Rattle.std.specs.Prelude.{nat_lt}
use Rattle.std.specs.Option.{option_map_or}
use Rattle.tez_ids.specs.declared.name.Name.{Name}
use Rattle.tez_plan.specs.Dag.{is_one_to_one, is_broadcast, is_scatter_gather}
use Rattle.tez_plan.specs.Faults.{no_primary, mixed_primary, head_inputs, key_differs, primaries, incoming, inputs_fit, keys_fit}
use Rattle.tez_plan.proofs.CheckLemmas.{primary_pass, primary_fault, mixed_pass, mixed_fault, heads_pass, heads_fault, keys_pass, keys_fault}
use Rattle.tez_plan_checks.proofs.FindLemmas.{find_first, vertices_nowhere}
use Rattle.tez_plan_checks.proofs.faults.check_inputs.Goals as goal

pub returns-in-Some-clause-fault : goal.returns-in-Some-clause-fault
returns-in-Some-clause-fault c = λ _. let p = c.args.graph.now in
    primary_fault p c.in-Some.v c.requires (find_first (no_primary p) (length p.vertices) c.in-Some.v (sym c.in-Some.ensures.first))

pub returns-in-Some-first_with_mixed_primary-clause-fault : goal.returns-in-Some-first_with_mixed_primary-clause-fault
returns-in-Some-first_with_mixed_primary-clause-fault c = λ _. let p = c.args.graph.now in
    let primary = primary_pass p c.requires (vertices_nowhere p (λ v s. primaries p v s == 0) (sym c.in_default.ensures.first)) in
    mixed_fault p c.in-Some-first_with_mixed_primary.v primary (find_first (mixed_primary p) (length p.vertices) _ (sym c.in-Some-first_with_mixed_primary.ensures.first))

pub returns-in-Some-first_with_unfit_inputs-clause-fault : goal.returns-in-Some-first_with_unfit_inputs-clause-fault
returns-in-Some-first_with_unfit_inputs-clause-fault c = λ _. let p = c.args.graph.now in
    let primary = primary_pass p c.requires (vertices_nowhere p (λ v s. primaries p v s == 0) (sym c.in_default.ensures.first)) in
    let mixed = mixed_pass p primary (vertices_nowhere p (λ v s. nat_lt 1 (primaries p v s)) (sym c.in_default-first_with_mixed_primary.ensures.first)) in
    heads_fault p c.in-Some-first_with_unfit_inputs.v mixed (find_first (head_inputs p) (length p.vertices) _ (sym c.in-Some-first_with_unfit_inputs.ensures.first))

pub returns-in-Some-first_with_unfit_keys-clause-fault : goal.returns-in-Some-first_with_unfit_keys-clause-fault
returns-in-Some-first_with_unfit_keys-clause-fault c = λ _. let p = c.args.graph.now in
    let primary = primary_pass p c.requires (vertices_nowhere p (λ v s. primaries p v s == 0) (sym c.in_default.ensures.first)) in
    let mixed = mixed_pass p primary (vertices_nowhere p (λ v s. nat_lt 1 (primaries p v s)) (sym c.in_default-first_with_mixed_primary.ensures.first)) in
    let heads = heads_pass p mixed (vertices_nowhere p (λ v s. not (inputs_fit s.head (incoming is_scatter_gather p v) (length (incoming is_broadcast p v)))) (sym c.in_default-first_with_unfit_inputs.ensures.first)) in
    keys_fault p c.in-Some-first_with_unfit_keys.v heads (find_first (key_differs p) (length p.vertices) _ (sym c.in-Some-first_with_unfit_keys.ensures.first))

pub returns-clause-passes : goal.returns-clause-passes
returns-clause-passes c = let p = c.args.graph.now in
    let primary = primary_pass p c.requires (vertices_nowhere p (λ v s. primaries p v s == 0) (sym c.in_default.ensures.first)) in
    let mixed = mixed_pass p primary (vertices_nowhere p (λ v s. nat_lt 1 (primaries p v s)) (sym c.in_default-first_with_mixed_primary.ensures.first)) in
    let heads = heads_pass p mixed (vertices_nowhere p (λ v s. not (inputs_fit s.head (incoming is_scatter_gather p v) (length (incoming is_broadcast p v)))) (sym c.in_default-first_with_unfit_inputs.ensures.first)) in
    keys_pass p heads (vertices_nowhere p (λ v s. not (keys_fit s.head (incoming is_scatter_gather p v) (length (incoming is_one_to_one p v) + option_map_or {T = Name} {U = ℕ} (λ _. 1) s.source 0))) (sym c.in_default-first_with_unfit_keys.ensures.first))
