use Rattle.std.proofs.Common.{rules}
use Rattle.tez_tournament.proofs.TreeLemmas.{empty_set}
use Rattle.tez_tournament.proofs.tree.Tournament.new.Goals as goal

pub returns : goal.returns
returns c = empty_set c.args.count c.in_ok-vec.field-0.items (c.in_ok-vec.ensures.items_if_clones_equal (search rules))
