use Rattle.std.proofs.Common.{◌<◌, ◌≤◌, ◌∙◌, ap, arith}
use Rattle.tez_master_model.specs.State.{MasterState}
use Rattle.tez_core.specs.Choosing.{count_at}
use Rattle.tez_lead.proofs.Taken.{absent_carried, few_carried}
use Rattle.tez_lead.proofs.parts.Lead.carry.Goals as goal

pub returns-then-tasks_of-t : goal.returns-then-tasks_of-t
returns-then-tasks_of-t c =
    let count = c.tasks_of.ensures ∙ ap (λ (m : MasterState). count_at m.vertices c.args.t.vertex.0) c.self.view_is in
    let absent : count_at c.args.self.now.vertices c.args.t.vertex.0 ≤ c.args.t.index = omega (arith, count, c.if-tasks_of-t.true) in
    absent_carried c.args.self.now c.args.t c.args.failures absent

pub overflow_cast-failures : goal.overflow_cast-failures
overflow_cast-failures c =
    let count = c.tasks_of.ensures ∙ ap (λ (m : MasterState). count_at m.vertices c.args.t.vertex.0) c.self.view_is in
    let there : c.args.t.index < count_at c.args.self.now.vertices c.args.t.vertex.0 = omega (arith, count, c.if-tasks_of-t.false) in
    let limit = c.max_failed-most.ensures.limit ∙ ap (λ (m : MasterState). m.conf.max_failed) c.self.view_is in
    let few = few_carried c.args.self.now c.args.t c.args.failures c.requires.limits c.requires.can there in
    omega (arith, limit, few, c.max_failed-most.ensures.few)
