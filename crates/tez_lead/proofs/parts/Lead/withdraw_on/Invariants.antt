use Rattle.std.proofs.Common.{◌≡◌, ◌+◌, ◌*◌, ◌^◌, fold, flat_map}
use Rattle.tez_lists.specs.Numbers.{numbers_from}
use Rattle.tez_lead.specs.Losing.{withdrawn_at, tasks_in, RoomsBelow}
use Rattle.tez_lead.proofs.parts.Lead.withdraw_on.Given as goal

abbrev pub invariant-loop-v : goal.invariant-loop-v
invariant-loop-v l = record {
  is : l.self ≡ fold (withdrawn_at l.slot) l.fn.self (flat_map (tasks_in l.fn.self) (numbers_from 0 l.v));
  rooms : RoomsBelow (2 ^ 63 + 2 ^ 61 + l.v * 2 ^ 32) l.self;
}
