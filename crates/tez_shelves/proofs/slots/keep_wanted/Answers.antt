use Rattle.std.proofs.Common.{rules}
use Rattle.tez_shelves.specs.declared.slots.Shelved.{Shelved}
use Rattle.tez_shelves.proofs.SlotLemmas.{slots_kept}
use Rattle.tez_shelves.proofs.slots.keep_wanted.Goals as goal

pub returns : goal.returns
returns c = slots_kept _ _ (λ (s : Shelved). s.wanted) (λ key old keep new next called. search rules) _ _ _ c.retain.ensures.retained
