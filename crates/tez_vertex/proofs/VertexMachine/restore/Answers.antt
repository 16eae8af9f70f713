use Rattle.std.proofs.Common.{◌≡◌, ◌<◌, ◌+◌, cond, Some, ap, sym, ◌∙◌, subst, length}
use Rattle.std.specs.Prelude.{is_some, ◌||◌, slice_get}
use Rattle.tez_vertex.specs.Vertex.{has_winner}
use Rattle.tez_vertex.specs.Table.{after_restore}
use Rattle.tez_vertex.proofs.VertexLemmas.{read, counted_set, spent_before, restored_state, vertex}
use Rattle.tez_vertex.proofs.VertexMachine.restore.Goals as goal

pub invariant_of-self : goal.invariant_of-self
invariant_of-self c =
    let items = c.self.inside.tasks.items in
    let x = c.index_mut-machine.result.now in
    let there : slice_get items c.args.task ≡ Some x = read items c.args.task x (subst (λ v. c.args.task < length v.tasks) (sym c.self.view_is) c.requires.there) c.index_mut-machine.ensures.value in
    let had : c.is_some-had.result ≡ has_winner x = c.is_some-had.ensures ∙ ap is_some c.winner.ensures in
    let has : c.is_some.result ≡ has_winner c.restore.new.self = c.is_some.ensures ∙ sym (ap has_winner c.restore.ensures) in
    let num = sym (ap (λ b. c.recount-self-inside.result + cond b 1 0) had) ∙ c.recount-self-inside.ensures ∙ ap (λ b. c.self.inside.won + cond b 1 0) has in
    let spent : c.restore.new.self.spent ≡ x.spent = ap (λ t. t.spent) c.restore.ensures in
    counted_set items c.self.inside.max_failed c.self.inside.won c.recount-self-inside.result c.self.inside.spent c.self.inside.spent c.args.task x c.restore.new.self c.self.invariant there num (λ h. spent ∙ h)
    (spent_before items c.self.inside.max_failed c.self.inside.won c.self.inside.spent c.args.task x c.self.invariant there ∙ ap (λ b. c.self.inside.spent || b) (sym spent))

pub returns : goal.returns
returns c =
    let items = c.self.inside.tasks.items in
    let x = c.index_mut-machine.result.now in
    let there : slice_get items c.args.task ≡ Some x = read items c.args.task x (subst (λ v. c.args.task < length v.tasks) (sym c.self.view_is) c.requires.there) c.index_mut-machine.ensures.value in
    let s = vertex c.self.inside.vertex c.self.inside.epoch.0 c.self.inside.max_failed c.self.inside.configured items c.self.inside.moved in
    restored_state s c.args.task c.args.failures c.args.winner x c.restore.new.self there c.restore.ensures ∙ ap (λ v. after_restore v c.args.task c.args.failures c.args.winner) c.self.view_is
