use Rattle.std.proofs.Common.{arith, ap, ◌∙◌, position}
use Rattle.tez_tournament.proofs.TreeLemmas.{root_read}
use Rattle.tez_tournament.proofs.tree.Tournament.least.Goals as goal

pub returns-else-self-eq0 : goal.returns-else-self-eq0
returns-else-self-eq0 c = root_read c.self.inside.count c.self.inside.nodes.items c.index.result.now c.self.invariant (omega arith) c.index.ensures ∙ ap (position (λ b. b)) c.self.view_is
