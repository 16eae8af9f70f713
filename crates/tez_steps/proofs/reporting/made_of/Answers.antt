use Rattle.tez_meaning.proofs.JoinLemmas.{few_edges}
use Rattle.tez_steps.proofs.reporting.made_of.Goals as goal

pub made_over-requires : goal.made_over-requires
made_over-requires c = few_edges c.args.plan.now c.vertices-valid.ensures.valid
