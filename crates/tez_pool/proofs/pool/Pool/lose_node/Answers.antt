use Rattle.std.proofs.Common.{◌+◌, ◌<◌, ap, ◌∙◌, sym, subst, length, set}
use Rattle.std.proofs.lemmas.List.{length-set}
use Rattle.tez_lists.specs.Tables.{each_from}
use Rattle.tez_pool.specs.Table.{after_loss, lose_place}
use Rattle.tez_pool.proofs.PoolLemmas.{pool, kept_fewer, who_lost, next_life}
use Rattle.tez_pool.proofs.pool.Pool.lose_node.Goals as goal

pub invariant_of-self : goal.invariant_of-self
invariant_of-self c =
    kept_fewer c.self.inside.places c.lose_places.new.places c.self.inside.lives.items _ c.self.inside.per_node c.self.inside.index (lose_place c.self.inside.per_node c.args.slot c.self.inside.next) c.self.invariant
    (length-set c.self.inside.lives.items c.args.slot (c.index_mut.result.now + 1)) c.lose_places.ensures (λ q x a h. who_lost c.self.inside.per_node c.args.slot c.self.inside.next q x a h)

pub returns : goal.returns
returns c =
    let inside : c.args.slot < length c.self.inside.lives.items = subst (λ v. c.args.slot < length v.lives) (sym c.self.view_is) c.requires.slot in
    let lives = next_life c.args.slot c.self.inside.lives.items c.index_mut.result.now c.index_mut.result.now inside c.index_mut.ensures.value in
    ap (λ ps. pool ps (set c.self.inside.lives.items c.args.slot (c.index_mut.result.now + 1)) (c.self.inside.next + c.self.inside.per_node) c.self.inside.per_node c.self.inside.reuse) c.lose_places.ensures
    ∙ ap (λ ls. pool (each_from 0 (lose_place c.self.inside.per_node c.args.slot c.self.inside.next) c.self.inside.places) ls (c.self.inside.next + c.self.inside.per_node) c.self.inside.per_node c.self.inside.reuse) lives
    ∙ ap (λ v. after_loss v c.args.slot) c.self.view_is
