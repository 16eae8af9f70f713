use Rattle.std.proofs.Common.{arith}
use Rattle.std.proofs.lemmas.Grind.{common_steps}
use Rattle.tez_ids.specs.Same.{task}
use Rattle.tez_task.specs.Table.{new_task}
use Rattle.tez_vertex.proofs.VertexLemmas.{one_more}
use Rattle.tez_vertex.proofs.new_tasks.Goals as goal

pub loop-index-preserved : goal.loop-index-preserved
loop-index-preserved c = grind (arith, common_steps, one_more (λ i. new_task (task c.args.vertex.0 i) c.args.epoch.0 c.args.max_failed) c.loop-index.index)
