use Rattle.std.proofs.Common.{◌≡◌, None, Some, ◌∙◌, sym, subst, true≢false}
use Rattle.std.proofs.lemmas.Option.{same_Some}
use Rattle.tez_pool.specs.Index.{held_at}
use Rattle.tez_pool.proofs.IndexLemmas.{held_nowhere, held_there, held_if, is_held}
use Rattle.tez_pool.proofs.index.find.Goals as goal

pub returns-in-None : goal.returns-in-None
returns-in-None c =
    sym (held_nowhere c.args.places.now c.args.index.now c.args.attempt c.requires (λ p e h. let both : None ≡ Some p = c.in-None.ensures.value ∙ e in cc))

pub returns-then-is_held_at : goal.returns-then-is_held_at
returns-then-is_held_at c =
    sym (held_there c.args.places.now c.args.index.now c.in-Some.place.now c.args.attempt c.requires (held_if c.args.places.now c.in-Some.place.now c.args.attempt (sym c.is_held_at.ensures ∙ c.if-is_held_at.true)))

pub returns-else-is_held_at : goal.returns-else-is_held_at
returns-else-is_held_at c =
    sym (held_nowhere c.args.places.now c.args.index.now c.args.attempt c.requires
    (λ p e h. let same : p ≡ c.in-Some.place.now = same_Some p c.in-Some.place.now (sym e ∙ sym c.in-Some.ensures.value) in
    true≢false (sym (is_held c.args.places.now c.in-Some.place.now c.args.attempt (subst (λ q. held_at c.args.places.now q ≡ Some c.args.attempt) same h)) ∙ sym c.is_held_at.ensures ∙ c.if-is_held_at.false)))
