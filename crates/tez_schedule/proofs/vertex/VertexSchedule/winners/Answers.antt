use Rattle.std.proofs.Common.{◌≤◌, arith, subst}
use Rattle.tez_schedule.specs.Table.{tasks_in}
use Rattle.tez_schedule.proofs.VertexLemmas.{won_few}
use Rattle.tez_schedule.proofs.vertex.VertexSchedule.winners.Goals as goal

pub returns-clause-inside : goal.returns-clause-inside
returns-clause-inside c =
    let few = won_few _ _ c.self.invariant in
    subst (λ x. c.count.result ≤ tasks_in x) c.self.view_is (omega (arith, c.count.ensures))
