use Rattle.tez_plan.proofs.CheckLemmas.{all_pass}
use Rattle.tez_plan.proofs.Results.{on_ok}
use Rattle.tez_plan_checks.proofs.faults.check_parts.Goals as goal

pub returns-clause-valid : goal.returns-clause-valid
returns-clause-valid c = on_ok c.check_total.result (all_pass c.args.graph.now) c.check_total.ensures.passes
