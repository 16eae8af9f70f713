use Rattle.std.proofs.Common.{◌≡◌, fold, map}
use Rattle.tez_ids.specs.Same.{task}
use Rattle.tez_lists.specs.Numbers.{numbers_from}
use Rattle.tez_lead.specs.Losing.{withdrawn_at}
use Rattle.tez_lead.proofs.parts.Lead.withdraw_from.Given as goal

abbrev pub invariant-loop-index : goal.invariant-loop-index
invariant-loop-index l = l.self ≡ fold (withdrawn_at l.slot) l.fn.self (map (task l.v.0) (numbers_from 0 l.index))
