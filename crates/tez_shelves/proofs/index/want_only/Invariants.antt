use Rattle.std.proofs.Common.{◌≡◌, ℕ, take}
use Rattle.std.specs.Option.{option_map}
use Rattle.std.specs.List.{list_any}
use Rattle.slab.specs.Slab.{get}
use Rattle.tez_ids.specs.Same.{same_attempt}
use Rattle.tez_shelves.specs.declared.slots.Shelved.{Shelved}
use Rattle.tez_shelves.specs.Slots.{marked}
use Rattle.tez_shelves.proofs.index.want_only.Given as goal

abbrev pub invariant-loop-a : goal.invariant-loop-a
invariant-loop-a l = (k : ℕ) →
    get l.slots k
    ≡ option_map (λ (s : Shelved). marked (list_any (same_attempt s.attempt) (take l.a-index l.attempts)) s) (get l.fn.slots k)
