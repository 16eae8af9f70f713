use Rattle.std.proofs.Common.{not, rules}
use Rattle.tez_shelves.specs.Shelf.{same_node}
use Rattle.tez_shelves.specs.declared.slots.Shelved.{Shelved}
use Rattle.tez_shelves.proofs.SlotLemmas.{slots_kept}
use Rattle.tez_shelves.proofs.slots.keep_elsewhere.Goals as goal

pub returns : goal.returns
returns c = slots_kept _ _ (λ (s : Shelved). not (same_node s.node c.args.n)) (λ key old keep new next called. search rules) _ _ _ c.retain.ensures.retained
