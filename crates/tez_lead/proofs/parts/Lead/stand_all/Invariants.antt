use Rattle.std.proofs.Common.{◌≡◌, take}
use Rattle.tez_master_model.specs.Recovery.{all_stood}
use Rattle.tez_lead.proofs.parts.Lead.stand_all.Given as goal

abbrev pub invariant-loop-x : goal.invariant-loop-x
invariant-loop-x l = l.self ≡ all_stood l.fn.self (take l.x-index l.configured)
