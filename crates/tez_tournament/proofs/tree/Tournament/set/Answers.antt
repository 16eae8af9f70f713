use Rattle.std.proofs.Common.{◌≡◌, ◌+◌, arith, ap, ◌∙◌, set, drop, take, length, ◌++◌}
use Rattle.tez_lists.proofs.Tables.{whole}
use Rattle.tez_tournament.specs.Tree.{leaf}
use Rattle.tez_tournament.proofs.TreeLemmas.{set_is}
use Rattle.tez_tournament.proofs.tree.Tournament.set.Goals as goal

pub returns : goal.returns
returns c =
    let items = c.self.inside.nodes.items in
    let count = c.self.inside.count in
    let written = set items (count + c.args.number) c.leaf.result in
    let back = whole c.self.inside.nodes.len c.replay.new.nodes written (omega arith) in
    let leaves : drop count (take c.self.inside.nodes.len (c.replay.new.nodes ++ drop (length c.replay.new.nodes) written)) ≡ drop count (set items (count + c.args.number) (leaf c.args.number c.args.present)) =
    ap (drop count) back ∙ c.replay.ensures.leaves ∙ ap (drop count) c.as_mut_slice.ensures.value ∙ ap (λ x. drop count (set items (count + c.args.number) x)) c.leaf.ensures in
    set_is count c.args.number items _ c.args.present leaves ∙ ap (λ f. set f c.args.number c.args.present) c.self.view_is
