use Rattle.std.proofs.Common.{◌∙◌, ◌<◌, ◌^◌, List, length, sym, ap, subst}
use Rattle.tez_task.specs.TaskState.{TaskState}
use Rattle.tez_vertex.specs.Table.{new_tasks}
use Rattle.tez_vertex.specs.Vertex.{Vertex}
use Rattle.tez_vertex.proofs.VertexLemmas.{counted_new}
use Rattle.tez_vertex.proofs.VertexMachine.configure_with.Goals as goal

pub invariant_of-self : goal.invariant_of-self
invariant_of-self c =
    let n = length c.args.x in
    let is = c.x.view_is ∙ c.requires ∙ ap (λ (s : Vertex). new_tasks s n) (sym c.self.view_is) in
    counted_new c.self.inside.vertex.0 c.self.inside.epoch.0 c.self.inside.max_failed n c.x.inside.tasks.items is (subst (λ (xs : List TaskState). length xs < 2 ^ 32) c.x.view_is c.x.invariant) c.self.invariant.may_fail
