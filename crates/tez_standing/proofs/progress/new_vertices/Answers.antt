use Rattle.std.proofs.Common.{arith}
use Rattle.std.proofs.lemmas.Grind.{common_steps}
use Rattle.tez_plan.specs.Dag.{tasks_of}
use Rattle.tez_standing.specs.Progress.{new_vertex}
use Rattle.tez_standing.proofs.TableLemmas.{one_more}
use Rattle.tez_standing.proofs.progress.new_vertices.Goals as goal

pub loop-v-preserved : goal.loop-v-preserved
loop-v-preserved c = grind (arith, common_steps, one_more (λ v. new_vertex v (tasks_of c.args.p.now v)) c.loop-v.v)
