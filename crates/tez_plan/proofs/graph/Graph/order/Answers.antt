use Rattle.std.proofs.Common.{◌≡◌, ◌∙◌, ℕ, suc, ◌+◌, ◌-◌, ◌<◌, ◌≤◌, ◌++◌, [], ◌∷◌, List, Some, false, true, length, map, find, get_or, refl, sym, ap, subst, arith, rules, length-set}
use Rattle.std.proofs.lemmas.Grind.{common_steps}
use Rattle.std.proofs.lemmas.List.{map-append, get_or-replicate, length-replicate}
use Rattle.tez_ids.specs.declared.VertexId.{VertexId}
use Rattle.tez_plan.specs.Dag.{vertex}
use Rattle.tez_plan.specs.Order.{among, after, topo, is_ready, vertex_numbers}
use Rattle.tez_plan.proofs.StepLemmas.{one_more, no_more, marks_more}
use Rattle.tez_plan.proofs.graph.Graph.order.Goals.{in-Some+in_ok-push, in_default}
use Rattle.tez_plan.proofs.graph.Graph.order.Goals as goal

pub loop-init : goal.loop-init
unfolding topo
loop-init c =
    let p = c.args.self.now in
    let n = length p.vertices in
    let all : n - 0 ≡ n = omega arith in
    record {
      so_far = sym (ap (λ ts. map (λ v. v.0) ts ++ after (n - 0) p (map (λ v. v.0) ts)) c.new-order.ensures.items ∙ ap (λ m. after m p []) all);
      marks = λ u below.
          ap (λ xs. get_or xs u false) (c.in_ok-out.ensures.items_if_clones_equal (λ y e. e))
          ∙ get_or-replicate (length c.vertices-count.result.now) u false false (omega (arith, ap length c.vertices-count.ensures.same))
          ∙ ap (λ ts. among (map {A = VertexId} {B = ℕ} (λ v. v.0) ts) u) (sym c.new-order.ensures.items);
      out = ap length (c.in_ok-out.ensures.items_if_clones_equal (λ y e. e)) ∙ length-replicate (length c.vertices-count.result.now) false ∙ ap length c.vertices-count.ensures.same;
      waits = ap length (c.in_ok-waits.ensures.items_if_clones_equal (λ y e. e)) ∙ length-replicate (length c.vertices-count.result.now) false ∙ ap length c.vertices-count.ensures.same;
    }

pub loop-preserved : goal.loop-preserved
loop-preserved c =
    let p = c.args.self.now in
    let o : List ℕ = map (λ v. v.0) c.loop.order.items in
    let below : c.loop.counter < length p.vertices = omega (arith, ap length c.vertices-count.ensures.same) in
    let marks : (u : ℕ) → u < length p.vertices → get_or c.deref.result.now u false ≡ among o u = λ u inside. ap (λ xs. get_or xs u false) c.deref.ensures.value ∙ c.loop.invariant.marks u inside in
    elim c.match-next_ready.branch [
      | in-Some+in_ok-push w ↦
          let items : map (λ v. v.0) c.match-next_ready.order.items ≡ o ++ w.in-Some.v ∷ [] =
          ap (λ ts. map (λ v. v.0) ts.items) w.order-is ∙ ap (map (λ v. v.0)) w.in_ok-push.ensures.items ∙ map-append (λ v. v.0) c.loop.order.items (record { 0 = w.in-Some.v } ∷ []) in
          let found : find (is_ready p o) (vertex_numbers p) ≡ Some w.in-Some.v = sym (w.in-Some.ensures.first o marks) in
          record {
            so_far = subst (λ os. topo p ≡ os ++ after (length p.vertices - (c.loop.counter + 1)) p os) (sym items) (one_more p (length p.vertices) c.loop.counter w.in-Some.v o below found c.loop.invariant.so_far);
            marks = λ u inside. ap (λ x. get_or x.items u false) w.out-is ∙ marks_more c.loop.out.items o (length p.vertices) w.in-Some.v c.loop.invariant.out w.in-Some.ensures.within c.loop.invariant.marks u inside ∙ ap (λ os. among os u) (sym items);
            out = ap (λ x. length x.items) w.out-is ∙ length-set c.loop.out.items w.in-Some.v true ∙ c.loop.invariant.out;
            waits = grind (arith, common_steps);
          }
      | in_default w ↦
          record {
            so_far = subst (λ os. topo p ≡ map (λ v. v.0) os.items ++ after (length p.vertices - (c.loop.counter + 1)) p (map (λ v. v.0) os.items)) (sym w.order-is) (no_more p (length p.vertices) c.loop.counter o below (sym (w.in_default.ensures.first o marks)) c.loop.invariant.so_far);
            marks = λ u inside. ap (λ x. get_or x.items u false) w.out-is ∙ c.loop.invariant.marks u inside ∙ ap (λ os. among (map (λ v. v.0) os.items) u) (sym w.order-is);
            out = ap (λ x. length x.items) w.out-is ∙ c.loop.invariant.out;
            waits = grind (arith, common_steps);
          }
    ]

pub returns : goal.returns
returns c =
    let p = c.args.self.now in
    let none_left : length p.vertices - c.loop.counter ≡ 0 = omega (arith, ap length c.vertices-count.ensures.same) in
    let o : List ℕ = map (λ v. v.0) c.loop.order.items in
    let all : topo p ≡ o = c.loop.invariant.so_far ∙ ap (λ m. o ++ after m p o) none_left ∙ append-none o in
    sym (ap (map vertex) all ∙ same c.loop.order.items)
  where
    append-none : (ns : List ℕ) → ns ++ [] ≡ ns
    append-none [] = refl
    append-none (n ∷ ns) = ap (λ ms. n ∷ ms) (append-none ns)

    same : (vs : List VertexId) → map vertex (map (λ v. v.0) vs) ≡ vs
    same [] = refl
    same (v ∷ vs) = ap (λ us. v ∷ us) (same vs)
