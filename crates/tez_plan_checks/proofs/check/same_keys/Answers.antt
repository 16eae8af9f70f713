use Rattle.std.proofs.Common.{◌≡◌, ◌∙◌, ◌+◌, ◌==◌, ◌&&◌, Bool, true, ℕ, length, sym, ap, eq-eqb, arith}
use Rattle.std.specs.List.{list_all}
use Rattle.std.specs.Option.{option_map_or}
use Rattle.std.specs.Str.{bytes_eq}
use Rattle.tez_ids.specs.declared.name.Name.{Name}
use Rattle.tez_plan.specs.Dag.{is_one_to_one, is_scatter_gather, keys_of}
use Rattle.tez_plan.specs.Faults.{incoming}
use Rattle.tez_plan.proofs.GraphLemmas.{same_columns}
use Rattle.tez_plan_checks.proofs.check.same_keys.Goals as goal

pub returns-then-others-eq0 : goal.returns-then-others-eq0
returns-then-others-eq0 c =
    let others : length (incoming is_one_to_one c.args.graph.now c.args.v) + option_map_or {T = Name} {U = ℕ} (λ _. 1) c.args.vertex.now.source 0 ≡ 0 = omega (arith, c.incoming.ensures.one_to_one, c.source_count.ensures) in
    let gathers = incoming is_scatter_gather c.args.graph.now c.args.v in
    c.same_columns.ensures
    ∙ same_columns c.args.graph.now c.args.v _ _ c.edges.ensures.same c.ends.ensures.same
    ∙ ap (λ b. b && list_all (λ d. list_all (λ e. bytes_eq (keys_of d) (keys_of e)) gathers) gathers) (sym (eq-eqb _ 0 others))
