use Rattle.std.proofs.Common.{length, ap, arith}
use Rattle.tez_core.proofs.Plans.{few_edges}
use Rattle.tez_core.proofs.sinks.edge_count.Goals as goal

pub overflow_cast-result : goal.overflow_cast-result
overflow_cast-result c =
    let few = few_edges c.args.p.now c.vertices-valid.ensures.valid in
    let same = ap length c.edges.ensures in
    omega arith

pub returns-clause-few : goal.returns-clause-few
returns-clause-few c =
    let few = few_edges c.args.p.now c.vertices-valid.ensures.valid in
    let same = ap length c.edges.ensures in
    omega arith
