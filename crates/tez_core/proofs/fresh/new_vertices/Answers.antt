use Rattle.std.proofs.Common.{arith}
use Rattle.std.proofs.lemmas.Grind.{common_steps}
use Rattle.tez_plan.specs.Dag.{vertex}
use Rattle.tez_vertex.specs.Table.{new_vertex}
use Rattle.tez_core.proofs.Firsts.{one_more}
use Rattle.tez_core.proofs.fresh.new_vertices.Goals as goal

pub new_vertex-requires : goal.new_vertex-requires
new_vertex-requires c = omega (arith, c.values-most.ensures.in_range.some_failed)

pub loop-v-preserved : goal.loop-v-preserved
loop-v-preserved c = grind (arith, common_steps, one_more (λ v. new_vertex (vertex v) c.args.epoch.0 c.args.c.now.max_failed) c.loop-v.v)
