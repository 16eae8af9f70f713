use Rattle.std.proofs.Common.{◌∙◌, ap, not}
use Rattle.tez_plan.proofs.GraphLemmas.{leads_out}
use Rattle.tez_plan_checks.proofs.check.is_last.Goals as goal

pub returns : goal.returns
returns c = ap not c.leads_out-leads_on.ensures ∙ leads_out c.args.graph.now c.args.v _ c.ends.ensures.same
