use Rattle.std.proofs.Common.{None, ap, sym, ◌∙◌}
use Rattle.std.specs.Option.{option_map_or}
use Rattle.tez_shelves.specs.Piece.{piece_at}
use Rattle.tez_shelves.proofs.ShelfLemmas.{nothing, something}
use Rattle.tez_shelves.proofs.shelves.Shelves.piece.Goals as goal

pub returns-in_err-k : goal.returns-in_err-k
returns-in_err-k c =
    c.from_residual.ensures ∙ sym (ap (λ o. option_map_or (λ at. piece_at c.args.e c.args.output at.1) o None) (nothing c.self.inside.slots c.self.inside.places.entries c.args.a c.args.self.now c.self.view_is c.in_err-k.ensures))

pub returns : goal.returns
returns c =
    c.piece.ensures
    ∙ sym (ap (λ o. option_map_or (λ at. piece_at c.args.e c.args.output at.1) o None)
    (something c.self.inside.slots c.self.inside.places.entries c.args.a c.args.self.now c.place_of.result c.in_ok-k.k c.get.result c.in_ok-get.field-0 c.self.view_is c.place_of.ensures c.in_ok-k.was c.get.ensures c.in_ok-get.was))
