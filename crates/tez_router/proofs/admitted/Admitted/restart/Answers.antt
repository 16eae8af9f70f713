use Rattle.std.proofs.Common.{◌≡◌, ◌≤◌, ◌∙◌, ◌++◌, List, length, take, drop, map, sym, ap, subst, arith}
use Rattle.std.proofs.lemmas.List.{length-map}
use Rattle.tez_lists.proofs.Tables.{whole}
use Rattle.tez_router.specs.State.{EdgeInputs}
use Rattle.tez_router.specs.Table.{restart_over}
use Rattle.tez_router.specs.Edges.{AreInputs}
use Rattle.tez_router.proofs.Edges.{restarted_by_edge}
use Rattle.tez_router.proofs.admitted.Admitted.restart.Goals as goal

pub invariant_of-self : goal.invariant_of-self
invariant_of-self c =
    let e = c.args.edge.0 in
    let n = c.inputs_of-inputs.result in
    let ys : List EdgeInputs = c.self.inside.edges.items in
    let now : c.restart_each.new.edges ≡ map (restart_over e n) ys = c.restart_each.ensures ∙ ap (map (restart_over e n)) c.as_mut_slice.ensures.value in
    let long : length c.restart_each.new.edges ≡ length ys = ap length now ∙ length-map ys (restart_over e n) in
    let known = c.as_mut_slice.ensures.len in
    let same : length c.as_mut_slice.result.now ≡ length ys = ap length c.as_mut_slice.ensures.value in
    let all : take c.self.inside.edges.len (c.restart_each.new.edges ++ drop (length c.restart_each.new.edges) ys) ≡ c.restart_each.new.edges = whole c.self.inside.edges.len c.restart_each.new.edges ys (omega arith) in
    subst AreInputs (sym (all ∙ now)) (record {
      few = subst (λ m. m ≤ 256) (sym (length-map ys (restart_over e n))) c.self.invariant.few;
      ordered = restarted_by_edge e n ys c.self.invariant.ordered;
    })
