use Rattle.std.proofs.Common.{◌≡◌, sym, ap, length}
use Rattle.tez_plan_checks.proofs.FindLemmas.{first_on_cycle, none_on_cycle}
use Rattle.tez_plan_checks.proofs.faults.check_cycles.Goals as goal

pub returns-in-Some-clause-fault : goal.returns-in-Some-clause-fault
returns-in-Some-clause-fault c = λ _. first_on_cycle c.args.graph.now c.args.order.now (length c.vertices.result.now) c.in-Some.v c.requires.passes c.requires.order (ap length c.vertices.ensures.same) (sym c.in-Some.ensures.first)

pub returns-in-None-clause-passes : goal.returns-in-None-clause-passes
returns-in-None-clause-passes c = none_on_cycle c.args.graph.now c.args.order.now (length c.vertices.result.now) c.requires.passes c.requires.order (ap length c.vertices.ensures.same) (sym c.in-None.ensures.first)
