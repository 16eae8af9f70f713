use Rattle.std.proofs.Common.{◌≡◌, ◌<◌, ◌+◌, cond, true, not, Some, ap, sym, ◌∙◌, subst, length}
use Rattle.std.specs.Prelude.{is_some, ◌||◌, slice_get}
use Rattle.std.specs.Option.{option_map}
use Rattle.tez_task.specs.Table.{task_took}
use Rattle.tez_vertex.specs.Vertex.{has_winner}
use Rattle.tez_vertex.specs.Table.{after_take, is_ignored}
use Rattle.tez_vertex.proofs.VertexLemmas.{read, counted_set, stays_spent, taken_state, vertex}
use Rattle.tez_vertex.proofs.VertexMachine.take.Goals as goal

pub invariant_of-self : goal.invariant_of-self
invariant_of-self c =
    let items = c.self.inside.tasks.items in
    let x = c.index_mut-machine.result.now in
    let y = c.take-took.new.self in
    let there : slice_get items c.args.task ≡ Some x = read items c.args.task x (subst (λ v. c.args.task < length v.tasks) (sym c.self.view_is) c.requires.there) c.index_mut-machine.ensures.value in
    let had : c.is_some-had.result ≡ has_winner x = c.is_some-had.ensures ∙ ap is_some c.winner.ensures in
    let has : c.is_some-has.result ≡ has_winner y = c.is_some-has.ensures ∙ ap is_some c.winner-2.ensures in
    let num = sym (ap (λ b. c.recount-self-inside.result + cond b 1 0) had) ∙ c.recount-self-inside.ensures ∙ ap (λ b. c.self.inside.won + cond b 1 0) has in
    let keeps : x.spent ≡ true → y.spent ≡ true = λ h. ap (λ t. t.spent) c.take-took.ensures.after ∙ stays_spent x c.args.e h in
    counted_set items c.self.inside.max_failed c.self.inside.won c.recount-self-inside.result c.self.inside.spent _ c.args.task x y c.self.invariant there num keeps
    (c.either-self-inside.ensures ∙ ap (λ b. c.self.inside.spent || b) c.is_spent-spent.ensures)

pub returns-clause-after : goal.returns-clause-after
returns-clause-after c =
    let items = c.self.inside.tasks.items in
    let x = c.index_mut-machine.result.now in
    let there : slice_get items c.args.task ≡ Some x = read items c.args.task x (subst (λ v. c.args.task < length v.tasks) (sym c.self.view_is) c.requires.there) c.index_mut-machine.ensures.value in
    let s = vertex c.self.inside.vertex c.self.inside.epoch.0 c.self.inside.max_failed c.self.inside.configured items c.self.inside.moved in
    taken_state s c.args.task c.args.e x c.take-took.new.self _ there c.take-took.ensures.after
    (c.either-self-inside-2.ensures ∙ ap (λ t. c.self.inside.moved || not t) (c.is_ignored.ensures ∙ ap is_ignored c.take-took.ensures.took)) ∙ ap (λ v. after_take v c.args.task c.args.e) c.self.view_is

pub returns-clause-took : goal.returns-clause-took
returns-clause-took c =
    let items = c.self.inside.tasks.items in
    let x = c.index_mut-machine.result.now in
    let there : slice_get items c.args.task ≡ Some x = read items c.args.task x (subst (λ v. c.args.task < length v.tasks) (sym c.self.view_is) c.requires.there) c.index_mut-machine.ensures.value in
    ap (λ v. option_map (λ t. task_took t c.args.e) (slice_get v.tasks c.args.task)) (sym c.self.view_is) ∙ ap (option_map (λ t. task_took t c.args.e)) there ∙ ap Some (sym c.take-took.ensures.took)
