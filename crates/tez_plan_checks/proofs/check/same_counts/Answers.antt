use Rattle.std.proofs.Common.{◌∙◌}
use Rattle.tez_plan.proofs.GraphLemmas.{same_counts}
use Rattle.tez_plan_checks.proofs.check.same_counts.Goals as goal

pub returns : goal.returns
returns c = c.same_numbers_of_columns.ensures ∙ same_counts c.args.graph.now c.args.v _ _ c.edges.ensures.same c.ends.ensures.same
