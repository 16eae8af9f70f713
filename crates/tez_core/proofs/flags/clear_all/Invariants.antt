use Rattle.std.proofs.Common.{◌≡◌, ◌++◌, take, drop, map, false}
use Rattle.tez_core.proofs.flags.clear_all.Given as goal

abbrev pub invariant-loop-flag : goal.invariant-loop-flag
invariant-loop-flag l = l.flags ≡ map (λ b. false) (take l.flag-index l.fn.flags) ++ drop l.flag-index l.fn.flags
