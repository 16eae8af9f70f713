use Rattle.std.proofs.Common.{◌<◌, ◌^◌, length, sym, ap, ◌∙◌, subst}
use Rattle.tez_ids.specs.Same.{task}
use Rattle.tez_task.specs.Table.{new_task}
use Rattle.tez_vertex.proofs.VertexLemmas.{so_many}
use Rattle.tez_vertex.proofs.VertexMachine.new_tasks.Goals as goal

pub invariant_of-result : goal.invariant_of-result
invariant_of-result c =
    subst (λ n. n < 2 ^ 32)
    (sym (ap length c.in_ok-machines.ensures ∙ so_many (λ i. new_task (task c.self.inside.vertex.0 i) c.self.inside.epoch.0 c.self.inside.max_failed) 0 c.args.tasks))
    c.ranges.tasks.fits
