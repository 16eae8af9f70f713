use Rattle.std.proofs.Common.{◌∙◌}
use Rattle.tez_plan.proofs.GraphLemmas.{any_from}
use Rattle.tez_plan_checks.proofs.check.gathers_from.Goals as goal

pub returns : goal.returns
returns c = c.any_gather_from.ensures ∙ any_from c.args.graph.now c.args.v _ _ c.edges.ensures.same c.ends.ensures.same c.args.name.now
