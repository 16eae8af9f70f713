use Rattle.std.proofs.Common.{◌∙◌, ap, sym, is_some}
use Rattle.tez_shelves.proofs.ShelfLemmas.{held_at}
use Rattle.tez_shelves.proofs.WantLemmas.{too_at, too_none}
use Rattle.tez_shelves.proofs.index.want_too.Goals as goal

pub want-requires : goal.want-requires
want-requires c =
    let its = sym c.place_of.ensures ∙ c.in-Some.is in
    let it = held_at c.args.slots.now c.args.places.now.entries c.args.a c.in-Some.k c.requires its in
    ap is_some it.1

pub returns-in-Some : goal.returns-in-Some
returns-in-Some c =
    too_at c.args.slots.now c.args.places.now.entries c.args.a c.requires c.want.new.slots c.in-Some.k
    (sym c.place_of.ensures ∙ c.in-Some.is) c.want.ensures

pub returns-in_default : goal.returns-in_default
returns-in_default c =
    too_none c.args.slots.now c.args.places.now.entries c.args.a c.requires (sym c.place_of.ensures ∙ c.in_default.is)
