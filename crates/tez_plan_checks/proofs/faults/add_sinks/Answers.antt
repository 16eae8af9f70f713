use Rattle.std.proofs.Common.{◌≡◌, ◌∙◌, ℕ, Some, None, true, false, [], map, take, refl, sym, ap}
use Rattle.std.specs.List.{list_any}
use Rattle.std.specs.Option.{option_map_or}
use Rattle.std.specs.Str.{bytes_eq}
use Rattle.std.proofs.lemmas.Bool.{not-true, not-false}
use borrow.Author.Count.{below_more}
use Rattle.tez_plan.specs.Dag.{dag_of}
use Rattle.tez_plan.specs.Faults.{duplicate_sink, has_sink}
use Rattle.tez_plan.proofs.NameLemmas.{told, sink_again, no_sink, sink_more, sinks_same, nowhere_past}
use Rattle.tez_plan_checks.proofs.faults.add_sinks.Goals.{in-Some+in-Ok-true, in_default}
use Rattle.tez_plan_checks.proofs.faults.add_sinks.Goals as goal

pub returns-in-Ok-false-clause-fault : goal.returns-in-Ok-false-clause-fault
returns-in-Ok-false-clause-fault c = λ _.
    let at : c.index-vertices-v.result.sink ≡ Some c.as_str.result.now = ap (λ s. s.sink) c.index-vertices-v.is ∙ c.in-Some.is ∙ ap Some (sym c.as_str.ensures) in
    let again = sink_again c.args.vertices.now c.loop-v.sinks.keys c.loop-v.v c.index-vertices-v.result c.loop-v-test.true c.index-vertices-v.is c.loop-v.invariant.sinks c.as_str.result at in
    (c.loop-v.v, record { there = again ∙ not-false _ (sym c.in-Ok-false.ensures.added ∙ c.in-Ok-false.field-0-test); before = c.loop-v.invariant.own }, refl)

pub loop-v-preserved : goal.loop-v-preserved
loop-v-preserved c = elim c.match-vertices-v.branch [
  | in-Some+in-Ok-true w ↦
      let at : c.index-vertices-v.result.sink ≡ Some w.as_str.result.now = ap (λ s. s.sink) c.index-vertices-v.is ∙ w.in-Some.is ∙ ap Some (sym w.as_str.ensures) in
      let again = sink_again c.args.vertices.now c.loop-v.sinks.keys c.loop-v.v c.index-vertices-v.result c.loop-v-test.true c.index-vertices-v.is c.loop-v.invariant.sinks w.as_str.result at in
      let fresh : list_any (λ y. bytes_eq w.as_str.result.now y.now) c.loop-v.sinks.keys ≡ false = not-true _ (sym w.in-Ok-true.ensures.added ∙ w.in-Ok-true.field-0-test) in
      record {
        sinks = ap (λ s. map told s.keys) w.sinks-is ∙ sink_more c.args.vertices.now c.loop-v.sinks.keys c.loop-v.v c.index-vertices-v.result c.loop-v-test.true c.index-vertices-v.is c.loop-v.invariant.sinks w.as_str.result w.insert.new.self.keys at fresh w.in-Ok-true.ensures.keys;
        own = below_more (λ m. duplicate_sink (dag_of [] c.args.vertices.now []) m ≡ false) c.loop-v.v c.loop-v.invariant.own (again ∙ fresh);
      }
  | in_default w ↦
      let at : c.index-vertices-v.result.sink ≡ None = ap (λ s. s.sink) c.index-vertices-v.is ∙ w.in_default.is in
      record {
        sinks = ap (λ s. map told s.keys) w.sinks-is ∙ sinks_same c.args.vertices.now c.loop-v.sinks.keys c.loop-v.v c.index-vertices-v.result c.loop-v-test.true c.index-vertices-v.is c.loop-v.invariant.sinks at;
        own = below_more (λ m. duplicate_sink (dag_of [] c.args.vertices.now []) m ≡ false) c.loop-v.v c.loop-v.invariant.own (no_sink c.args.vertices.now c.loop-v.sinks.keys c.loop-v.v c.index-vertices-v.result c.loop-v-test.true c.index-vertices-v.is c.loop-v.invariant.sinks at);
      }
]

pub returns-clause-own : goal.returns-clause-own
returns-clause-own c = nowhere_past (λ n s. option_map_or (λ sink. list_any (has_sink sink) (take n c.args.vertices.now)) s.sink false) c.args.vertices.now c.loop-v.v c.loop-v-test.false c.loop-v.invariant.own
