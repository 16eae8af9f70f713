use Rattle.std.proofs.Common.{◌≡◌, take}
use Rattle.tez_master_model.specs.Recovery.{all_kept}
use Rattle.tez_lead.proofs.parts.Lead.keep_all.Given as goal

abbrev pub invariant-loop-k : goal.invariant-loop-k
invariant-loop-k l = l.self ≡ all_kept l.fn.self (take l.k-index l.kept)
