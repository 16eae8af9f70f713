use Rattle.std.proofs.Common.{◌≡◌, ◌∙◌, length, sym, subst}
use Rattle.tez_plan.specs.Graph.{AllWithin, IsGraph}
use Rattle.tez_plan.proofs.StepLemmas.{within}
use Rattle.tez_plan.proofs.graph.Graph.ends.Goals as goal

pub returns-clause-within : goal.returns-clause-within
returns-clause-within c =
    let p = c.args.self.now in
    let graph = subst (λ q. IsGraph q c.self.inside.ends.items) c.self.view_is c.self.invariant in
    subst (AllWithin (length p.vertices)) (sym (c.as_slice.ensures.value ∙ graph.ends_are)) (within p p.edges graph.inside)
