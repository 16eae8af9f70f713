use Rattle.std.proofs.Common.{◌≡◌, Some, ap, ◌∙◌, sym, set}
use Rattle.tez_pool.specs.Table.{place_held, after_release}
use Rattle.tez_pool.proofs.PoolLemmas.{pool, released_state, unreleased}
use Rattle.tez_pool.proofs.pool.Pool.release.Goals as goal

pub returns-in-Some : goal.returns-in-Some
returns-in-Some c =
    let s = pool c.self.inside.places c.self.inside.lives.items c.self.inside.next c.self.inside.per_node c.self.inside.reuse in
    let found : place_held c.self.inside.places c.args.attempt ≡ Some c.in-Some.place = ap (λ v. place_held v.places c.args.attempt) c.self.view_is ∙ sym c.find.ensures.found ∙ c.in-Some.is in
    released_state s c.self.inside.index c.in-Some.place c.get.result c.args.attempt c.set.new.self c.numbers_for.result c.self.invariant.finder found c.get.ensures
    (c.set.ensures ∙ ap (set c.self.inside.places c.in-Some.place) c.freed-freed.ensures) c.numbers_for.ensures ∙ ap (λ v. after_release v c.args.attempt) c.self.view_is

pub returns-in-None : goal.returns-in-None
returns-in-None c = unreleased c.args.self.now c.args.attempt (sym c.find.ensures.found ∙ c.in-None.is)
