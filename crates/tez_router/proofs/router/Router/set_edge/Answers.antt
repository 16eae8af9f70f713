use Rattle.std.proofs.Common.{◌≡◌, ◌≤◌, ◌∙◌, ◌++◌, List, length, take, drop, sym, ap, subst, arith, refl, map}
use Rattle.std.proofs.lemmas.List.{length-map}
use Rattle.tez_lists.proofs.Tables.{whole}
use Rattle.tez_router.specs.State.{AdmittedState, LinkState, routing_of}
use Rattle.tez_router.specs.Table.{restart_by, with_routing}
use Rattle.tez_router.specs.Order.{AreInOrder}
use Rattle.std.specs.List.{AllByRecursion}
use Rattle.tez_router.specs.Edges.{AreNumberedFrom, AreInto}
use Rattle.tez_router.proofs.Into.{restarted_into}
use Rattle.tez_router.proofs.Ordered.{mapped_order}
use Rattle.tez_router.proofs.Edges.{routed_numbered}
use Rattle.tez_router.proofs.Ranges.{length-with_routing}
use Rattle.tez_router.proofs.router.Router.set_edge.Goals as goal

pub invariant_of-self : goal.invariant_of-self
invariant_of-self c =
    let e = c.args.e.0 in
    let r = routing_of c.args.m in
    let ls : List LinkState = c.self.inside.links.items in
    let xs : List AdmittedState = c.self.inside.admitted.items in
    let links_now : c.set_manager.new.links ≡ with_routing ls e r = c.set_manager.ensures ∙ ap (λ ys. with_routing ys e r) c.as_mut_slice.ensures.value in
    let admitted_now : c.restart_all.new.admitted ≡ map (restart_by e r) xs = c.restart_all.ensures ∙ ap (map (restart_by e r)) c.as_mut_slice-2.ensures.value in
    let long_links : length c.set_manager.new.links ≡ length ls = ap length links_now ∙ length-with_routing ls e r in
    let long_admitted : length c.restart_all.new.admitted ≡ length xs = ap length admitted_now ∙ length-map xs (restart_by e r) in
    let known_links = c.as_mut_slice.ensures.len in
    let known_admitted = c.as_mut_slice-2.ensures.len in
    let same_links : length c.as_mut_slice.result.now ≡ length ls = ap length c.as_mut_slice.ensures.value in
    let same_admitted : length c.as_mut_slice-2.result.now ≡ length xs = ap length c.as_mut_slice-2.ensures.value in
    let few = c.self.invariant.few in
    let all_links : take c.self.inside.links.len (c.set_manager.new.links ++ drop (length c.set_manager.new.links) ls) ≡ c.set_manager.new.links = whole c.self.inside.links.len c.set_manager.new.links ls (omega arith) in
    let all_admitted : take c.self.inside.admitted.len (c.restart_all.new.admitted ++ drop (length c.restart_all.new.admitted) xs) ≡ c.restart_all.new.admitted = whole c.self.inside.admitted.len c.restart_all.new.admitted xs (omega arith) in
    record {
      few = subst (λ (ys : List LinkState). length ys ≤ 256) (sym all_links) (omega arith);
      numbered = subst (AreNumberedFrom 0) (sym (all_links ∙ links_now)) (routed_numbered 0 ls e r c.self.invariant.numbered);
      ordered = subst AreInOrder (sym (all_admitted ∙ admitted_now)) (mapped_order (restart_by e r) xs (λ x. refl) c.self.invariant.ordered);
      into = subst (λ (zs : List LinkState). AllByRecursion (AreInto zs) (take c.self.inside.admitted.len (c.restart_all.new.admitted ++ drop (length c.restart_all.new.admitted) xs))) (sym (all_links ∙ links_now))
          (subst (AllByRecursion (AreInto (with_routing ls e r))) (sym (all_admitted ∙ admitted_now)) (restarted_into ls e r xs c.self.invariant.into));
    }
