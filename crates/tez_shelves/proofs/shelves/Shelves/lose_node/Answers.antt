use Rattle.std.proofs.Common.{not, refl, ap, ◌∙◌}
use Rattle.tez_shelves.specs.declared.slots.Shelved.{Shelved}
use Rattle.tez_shelves.specs.Shelf.{kept_if, shelf, same_node}
use Rattle.tez_shelves.proofs.ShelfLemmas.{kept_shelf}
use Rattle.tez_shelves.proofs.shelves.Shelves.lose_node.Goals as goal

pub returns : goal.returns
returns c = λ b.
    kept_shelf c.self.inside.slots c.keep_elsewhere.new.slots c.self.inside.places.entries c.keep_placed.new.places.entries (λ (s : Shelved). not (same_node s.node c.args.n)) (λ a at. not (same_node at.0 c.args.n)) (λ k s e. refl) c.self.invariant c.keep_elsewhere.ensures c.keep_placed.ensures b
    ∙ ap (λ v. kept_if (λ at. not (same_node at.0 c.args.n)) (shelf b v)) c.self.view_is
