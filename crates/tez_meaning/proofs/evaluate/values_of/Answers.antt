use Rattle.std.proofs.Common.{◌≡◌, ◌∙◌, length, map, get_or, refl, sym, ap, subst, arith}
use Rattle.std.proofs.lemmas.List.{length-map}
use Rattle.tez_plan.specs.Dag.{Dag, vertex}
use Rattle.tez_plan.specs.Order.{topo}
use Rattle.tez_plan.specs.Faults.{IsValid}
use Rattle.tez_meaning.specs.Known.{known_in, bad_from, IsBadAt}
use Rattle.tez_meaning.specs.Value.{value_from}
use Rattle.tez_meaning.proofs.TurnLemmas.{its_turn}
use Rattle.tez_meaning.proofs.WalkLemmas.{place_at, made_more, bad_first, made_all, defined_all}
use Rattle.tez_meaning.proofs.evaluate.values_of.Goals as goal

pub vertex_value-requires : goal.vertex_value-requires
vertex_value-requires c =
    let p = c.args.job.now.plan in
    let place = place_at p c.deref-v-items.result.now c.loop-v.v-index (c.deref-v-items.ensures.value ∙ c.in-Ok.ensures ∙ ap (λ (q : Dag). map vertex (topo q)) c.plan.ensures) c.loop-v-test.true in
    (its_turn p c.loop-v.v-index _ place.low place.is).inside

pub index_mut-requires : goal.index_mut-requires
index_mut-requires c =
    let p = c.args.job.now.plan in
    let place = place_at p c.deref-v-items.result.now c.loop-v.v-index (c.deref-v-items.ensures.value ∙ c.in-Ok.ensures ∙ ap (λ (q : Dag). map vertex (topo q)) c.plan.ensures) c.loop-v-test.true in
    let inside = (its_turn p c.loop-v.v-index _ place.low place.is).inside in
    omega (arith, inside, c.loop-v.invariant.size)

pub returns-in-Err-vertex_value-clause-bad : goal.returns-in-Err-vertex_value-clause-bad
returns-in-Err-vertex_value-clause-bad c =
    let job = c.args.job.now in
    let place = place_at job.plan c.deref-v-items.result.now c.loop-v.v-index (c.deref-v-items.ensures.value ∙ c.in-Ok.ensures ∙ ap (λ (q : Dag). map vertex (topo q)) c.plan.ensures) c.loop-v-test.true in
    let valid = subst IsValid c.plan-2.ensures c.vertices.ensures.valid in
    bad_first job valid c.loop-v.values.items c.loop-v.v-index _ c.loop-v.invariant place.low place.is c.in-Err-vertex_value.cause
    (subst (λ vs. IsBadAt job (get_or c.deref-v-items.result.now c.loop-v.v-index (vertex 0)) vs c.in-Err-vertex_value.cause) c.deref.ensures.value c.in-Err-vertex_value.ensures.bad)

pub loop-v-preserved : goal.loop-v-preserved
loop-v-preserved c =
    let job = c.args.job.now in
    let place = place_at job.plan c.deref-v-items.result.now c.loop-v.v-index (c.deref-v-items.ensures.value ∙ c.in-Ok.ensures ∙ ap (λ (q : Dag). map vertex (topo q)) c.plan.ensures) c.loop-v-test.true in
    let valid = subst IsValid c.plan-2.ensures c.vertices.ensures.valid in
    let v = (get_or c.deref-v-items.result.now c.loop-v.v-index (vertex 0)).0 in
    made_more job valid c.loop-v.values.items c.loop-v.v-index v c.loop-v.invariant place.low place.is c.in-Ok-vertex_value.bag
    (c.in-Ok-vertex_value.ensures.value ∙ ap (λ vs. value_from job v (known_in vs)) c.deref.ensures.value)
    (sym (ap (λ vs. bad_from job v (known_in vs)) c.deref.ensures.value) ∙ c.in-Ok-vertex_value.ensures.good)
    _ refl

pub returns-clause-values : goal.returns-clause-values
returns-clause-values c =
    let job = c.args.job.now in
    let valid = subst IsValid c.plan-2.ensures c.vertices.ensures.valid in
    let size : length c.deref-v-items.result.now ≡ length (topo job.plan) = ap length (c.deref-v-items.ensures.value ∙ c.in-Ok.ensures ∙ ap (λ (q : Dag). map vertex (topo q)) c.plan.ensures) ∙ length-map (topo job.plan) vertex in
    made_all job valid c.loop-v.values.items c.loop-v.v-index c.loop-v.invariant (omega (arith, size, c.loop-v-test.false))

pub returns-clause-defined : goal.returns-clause-defined
returns-clause-defined c =
    let job = c.args.job.now in
    let valid = subst IsValid c.plan-2.ensures c.vertices.ensures.valid in
    let size : length c.deref-v-items.result.now ≡ length (topo job.plan) = ap length (c.deref-v-items.ensures.value ∙ c.in-Ok.ensures ∙ ap (λ (q : Dag). map vertex (topo q)) c.plan.ensures) ∙ length-map (topo job.plan) vertex in
    defined_all job valid c.loop-v.values.items c.loop-v.v-index c.loop-v.invariant (omega (arith, size, c.loop-v-test.false))
