use Rattle.std.proofs.Common.{length, ap, arith}
use Rattle.tez_plan.specs.Dag.{is_one_to_one}
use Rattle.tez_plan.proofs.GraphLemmas.{incoming_zip, incoming-le}
use Rattle.tez_plan_checks.proofs.check.incoming.Goals as goal

pub returns-clause-few : goal.returns-clause-few
returns-clause-few c =
    let same = incoming_zip is_one_to_one c.args.graph.now c.args.v _ _ c.edges.ensures.same c.ends.ensures.same in
    omega (arith, incoming-le is_one_to_one c.args.graph.now c.args.v, ap length c.edges.ensures.same)
