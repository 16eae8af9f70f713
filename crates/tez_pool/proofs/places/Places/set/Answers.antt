use Rattle.std.proofs.Common.{arith, ap, ◌∙◌, sym, set}
use Rattle.std.proofs.lemmas.List.{map-set, length-set}
use Rattle.tez_pool.specs.Table.{is_free}
use Rattle.tez_pool.proofs.places.Places.set.Goals as goal

pub invariant_of-self : goal.invariant_of-self
invariant_of-self c = (
  c.set.ensures ∙ ap (λ b. set c.self.inside.free c.args.place b) c.is_free.ensures ∙ ap (λ f. set f c.args.place (is_free c.args.value)) c.self.invariant.0 ∙ sym (map-set is_free c.self.inside.all.items c.args.place c.args.value),
  omega (arith, length-set c.self.inside.all.items c.args.place c.args.value, c.self.invariant.1),
)
