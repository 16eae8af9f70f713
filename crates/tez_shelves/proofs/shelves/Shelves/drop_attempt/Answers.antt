use Rattle.std.proofs.Common.{◌≡◌, ◌∙◌, cond, None, Some, ap, sym, refl}
use Rattle.std.proofs.lemmas.Option.{same_Some}
use Rattle.std.specs.Map.{lookup}
use Rattle.slab.specs.Slab.{get}
use Rattle.tez_ids.specs.Same.{same_attempt}
use Rattle.tez_shelves.specs.Shelf.{shelf}
use Rattle.tez_shelves.proofs.ShelfLemmas.{drop_held, drop_shelf, left_but, not_its}
use Rattle.tez_shelves.proofs.shelves.Shelves.drop_attempt.Goals as goal

pub invariant_of-self : goal.invariant_of-self
invariant_of-self c =
    let a = c.args.a in
    let old = c.self.inside.slots in
    let new = c.try_remove.new.self in
    let was = c.self.inside.places.entries in
    let its : lookup (same_attempt a) was ≡ Some c.in-Some.k = sym c.drop_place.ensures.place ∙ c.in-Some.is in
    let gone = c.try_remove.ensures.updates.changed in
    drop_held old new was c.drop_place.new.places.entries a c.self.invariant
    (λ d other. c.drop_place.ensures.rest d ∙ ap (λ t. cond t None (lookup (same_attempt d) was)) other)
    (λ d j other e. c.try_remove.ensures.updates.others j (not_its old was a d j c.in-Some.k c.self.invariant its other e))
    (λ d here. c.drop_place.ensures.rest d ∙ ap (λ t. cond t None (lookup (same_attempt d) was)) here)
    (left_but old new c.in-Some.k gone c.try_remove.ensures.updates.others)
    (λ j e. ap (get new) (same_Some j c.in-Some.k (sym e ∙ its)) ∙ gone)

pub returns-in-Some : goal.returns-in-Some
returns-in-Some c = λ b.
    drop_shelf c.self.inside.slots c.try_remove.new.self c.self.inside.places.entries c.drop_place.new.places.entries c.args.a c.self.invariant
    (λ d other. c.drop_place.ensures.rest d ∙ ap (λ t. cond t None (lookup (same_attempt d) c.self.inside.places.entries)) other)
    (λ d j other e. c.try_remove.ensures.updates.others j (not_its c.self.inside.slots c.self.inside.places.entries c.args.a d j c.in-Some.k c.self.invariant (sym c.drop_place.ensures.place ∙ c.in-Some.is) other e))
    (λ d here. c.drop_place.ensures.rest d ∙ ap (λ t. cond t None (lookup (same_attempt d) c.self.inside.places.entries)) here) b
    ∙ ap (λ v. cond (same_attempt c.args.a b) None (shelf b v)) c.self.view_is

pub returns-in_default : goal.returns-in_default
returns-in_default c = λ b.
    drop_shelf c.self.inside.slots c.self.inside.slots c.self.inside.places.entries c.drop_place.new.places.entries c.args.a c.self.invariant
    (λ d other. c.drop_place.ensures.rest d ∙ ap (λ t. cond t None (lookup (same_attempt d) c.self.inside.places.entries)) other)
    (λ d j other e. refl)
    (λ d here. c.drop_place.ensures.rest d ∙ ap (λ t. cond t None (lookup (same_attempt d) c.self.inside.places.entries)) here) b
    ∙ ap (λ v. cond (same_attempt c.args.a b) None (shelf b v)) c.self.view_is
