use Rattle.std.proofs.Common.{◌≡◌, fold}
use Rattle.tez_lists.specs.Numbers.{numbers_from}
use Rattle.tez_lead.specs.Losing.{killed_at}
use Rattle.tez_lead.proofs.parts.Lead.kill_on.Given as goal

abbrev pub invariant-loop-i : goal.invariant-loop-i
invariant-loop-i l = l.self ≡ fold killed_at l.fn.self (numbers_from l.first l.i)
