use Rattle.tez_lead.proofs.Steps.{left_after, commit_leaves}
use Rattle.tez_lead.proofs.parts.Lead.start_commit.Goals as goal

pub invariant_of-self : goal.invariant_of-self
invariant_of-self c = left_after _ _ _ _ c.self.invariant c.start_commit.ensures (commit_leaves _)
