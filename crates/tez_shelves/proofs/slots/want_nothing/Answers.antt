use Rattle.std.proofs.Common.{rules, false}
use Rattle.tez_shelves.specs.Slots.{marked}
use Rattle.tez_shelves.proofs.SlotLemmas.{slots_marked}
use Rattle.tez_shelves.proofs.slots.want_nothing.Goals as goal

pub returns : goal.returns
returns c = slots_marked _ _ (marked false) (λ key old keep new next called. search rules) _ _ _ c.retain.ensures.retained
