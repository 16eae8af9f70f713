use Rattle.std.proofs.Common.{◌≡◌, ◌∙◌, ℕ, ◌+◌, ◌-◌, ◌<◌, ◌≤◌, ◌^◌, length, map, get_or, refl, sym, ap, subst, arith, add-one}
use Rattle.std.proofs.lemmas.List.{get_or_default}
use Rattle.tez_lists.proofs.Tables.{whole}
use Rattle.std.proofs.lemmas.List.{get_or-replicate, length-replicate}
use Rattle.tez_plan.specs.Order.{depth, by_sources, one_longer}
use Rattle.tez_plan.proofs.StepLemmas.{longest_are, by_sources-le, table_is}
use Rattle.tez_plan.proofs.graph.Graph.depths.Goals as goal

pub loop-init : goal.loop-init
loop-init c = record {
  paths = λ v below. ap (λ xs. get_or xs v 0) (c.in_ok-known.ensures.items_if_clones_equal (λ y e. e)) ∙ get_or-replicate (length c.vertices-count.result.now) v 0 0 (omega (arith, ap length c.vertices-count.ensures.same));
  known = ap length (c.in_ok-known.ensures.items_if_clones_equal (λ y e. e)) ∙ length-replicate (length c.vertices-count.result.now) 0 ∙ ap length c.vertices-count.ensures.same;
  longer = ap length (c.in_ok-longer.ensures.items_if_clones_equal (λ y e. e)) ∙ length-replicate (length c.vertices-count.result.now) 0 ∙ ap length c.vertices-count.ensures.same;
}

pub lengthen-requires-clause-short : goal.lengthen-requires-clause-short
lengthen-requires-clause-short c = λ k d below.
    let p = c.args.self.now in
    let inside : k < length p.vertices = omega (arith, ap length c.deref.ensures.value, c.loop.invariant.known) in
    let is : get_or c.deref.result.now k d ≡ by_sources 0 (one_longer p) c.loop.counter k = get_or_default c.deref.result.now k d 0 below ∙ ap (λ xs. get_or xs k 0) c.deref.ensures.value ∙ c.loop.invariant.paths k inside in
    omega (arith, by_sources-le p c.loop.counter k, c.vertices-count.ensures.few)

pub loop-preserved : goal.loop-preserved
loop-preserved c =
    let p = c.args.self.now in
    let long : length c.lengthen.new.longer ≡ c.loop.longer.len = c.lengthen.auto.longer ∙ c.deref_mut.ensures.len in
    let lent = whole c.loop.longer.len c.lengthen.new.longer c.loop.longer.items long in
    let items : c.copy_from_slice.new.self.items ≡ c.lengthen.new.longer = c.copy_from_slice.ensures.items ∙ c.deref-in-loop.ensures.value ∙ lent in
    let as_many : length c.lengthen.new.longer ≡ length p.vertices = c.lengthen.auto.longer ∙ ap length c.deref_mut.ensures.value ∙ c.loop.invariant.longer in
    record {
      paths = λ v below.
          ap (λ xs. get_or xs v 0) items
          ∙ c.lengthen.ensures v (omega (arith, as_many))
          ∙ longest_are p c.ends.result.now c.deref.result.now (by_sources 0 (one_longer p) c.loop.counter) v c.ends.ensures.same (λ u inside. ap (λ xs. get_or xs u 0) c.deref.ensures.value ∙ c.loop.invariant.paths u inside) c.ends.ensures.inside
          ∙ ap (λ n. by_sources 0 (one_longer p) n v) (sym (add-one c.loop.counter));
      known = ap length items ∙ as_many;
      longer = ap length lent ∙ as_many;
    }

pub returns : goal.returns
unfolding depth
returns c =
    let p = c.args.self.now in
    let done : c.loop.counter ≡ length p.vertices = omega (arith, ap length c.vertices-count.ensures.same) in
    table_is (by_sources 0 (one_longer p) (length p.vertices)) (length p.vertices) c.loop.known.items c.loop.invariant.known (λ v below. c.loop.invariant.paths v below ∙ ap (λ n. by_sources 0 (one_longer p) n v) done)
