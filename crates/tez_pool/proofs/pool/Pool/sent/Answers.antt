use Rattle.std.proofs.Common.{◌≡◌, Some, ap, ◌∙◌, sym, set}
use Rattle.tez_pool.specs.Table.{place_held, send_place, after_sent}
use Rattle.tez_pool.proofs.PoolLemmas.{pool, kept_set, sent_state, unsent, who_sent}
use Rattle.tez_pool.proofs.pool.Pool.sent.Goals as goal

pub invariant_of-self : goal.invariant_of-self
invariant_of-self c =
    kept_set c.self.inside.places c.set.new.self c.self.inside.lives.items c.self.inside.per_node c.self.inside.index c.in-Some.place c.get.result (send_place c.args.attempt c.get.result)
    c.self.invariant c.get.ensures (c.set.ensures ∙ ap (set c.self.inside.places c.in-Some.place) c.sent-sent.ensures) (λ b h. sym (who_sent c.args.attempt c.get.result) ∙ h)

pub returns-in-Some : goal.returns-in-Some
returns-in-Some c =
    let s = pool c.self.inside.places c.self.inside.lives.items c.self.inside.next c.self.inside.per_node c.self.inside.reuse in
    let found : place_held c.self.inside.places c.args.attempt ≡ Some c.in-Some.place = ap (λ v. place_held v.places c.args.attempt) c.self.view_is ∙ sym c.find.ensures.found ∙ c.in-Some.is in
    sent_state s c.self.inside.index c.in-Some.place c.get.result c.args.attempt c.set.new.self c.self.invariant.finder found c.get.ensures
    (c.set.ensures ∙ ap (set c.self.inside.places c.in-Some.place) c.sent-sent.ensures) ∙ ap (λ v. after_sent v c.args.attempt) c.self.view_is

pub returns-in-None : goal.returns-in-None
returns-in-None c = unsent c.args.self.now c.args.attempt (sym c.find.ensures.found ∙ c.in-None.is)
