use Rattle.std.proofs.Common.{◌≡◌, ◌∙◌, ℕ, ◌<◌, true, false, not, [], length, take, refl, sym, ap, arith, bytes_eq}
use Rattle.std.specs.List.{list_any}
use Rattle.std.proofs.lemmas.Bool.{not-true, not-false}
use borrow.Author.Count.{below_more}
use Rattle.tez_plan.specs.Dag.{dag_of, vertex}
use Rattle.tez_plan.specs.Faults.{duplicate_name, IsFirstWhere}
use Rattle.tez_plan.proofs.NameLemmas.{name_again, names_more, nowhere_past}
use Rattle.tez_plan.proofs.graph.add_names.Goals as goal

pub returns-in-Ok-false-clause-fault : goal.returns-in-Ok-false-clause-fault
returns-in-Ok-false-clause-fault c =
    let again = name_again c.args.vertices.now c.loop-v.names.keys c.loop-v.v c.index-vertices-v.result c.as_str.result c.loop-v-test.true c.index-vertices-v.is c.loop-v.invariant.names c.as_str.ensures in
    λ _. (c.loop-v.v, record { there = again ∙ not-false _ (sym c.in-Ok-false.ensures.added ∙ c.in-Ok-false.field-0-test); before = c.loop-v.invariant.own }, refl)

pub loop-v-preserved : goal.loop-v-preserved
loop-v-preserved c =
    let again = name_again c.args.vertices.now c.loop-v.names.keys c.loop-v.v c.index-vertices-v.result c.as_str.result c.loop-v-test.true c.index-vertices-v.is c.loop-v.invariant.names c.as_str.ensures in
    let fresh : list_any (λ y. bytes_eq c.as_str.result.now y.now) c.loop-v.names.keys ≡ false = not-true _ (sym c.in-Ok-true.ensures.added ∙ c.in-Ok-true.field-0-test) in
    record {
      names = names_more c.args.vertices.now c.loop-v.names.keys c.loop-v.v c.index-vertices-v.result c.as_str.result c.loop-v-test.true c.index-vertices-v.is c.loop-v.invariant.names c.as_str.ensures _ fresh c.in-Ok-true.ensures.keys;
      own = below_more (λ m. duplicate_name (dag_of [] c.args.vertices.now []) m ≡ false) c.loop-v.v c.loop-v.invariant.own (again ∙ fresh);
    }

pub returns-clause-own : goal.returns-clause-own
returns-clause-own c = nowhere_past (λ n s. list_any (λ t. bytes_eq s.name t.name) (take n c.args.vertices.now)) c.args.vertices.now c.loop-v.v c.loop-v-test.false c.loop-v.invariant.own
