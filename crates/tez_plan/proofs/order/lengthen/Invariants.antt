use Rattle.std.proofs.Common.{◌≡◌, ◌<◌, ℕ, length, take, get_or}
use Rattle.tez_plan.specs.Graph.{longest_into}
use Rattle.tez_plan.proofs.order.lengthen.Given as goal

abbrev pub invariant-loop-source : goal.invariant-loop-source
invariant-loop-source l = (v : ℕ) → v < length l.longer → get_or l.longer v 0 ≡ longest_into (take l.source-index l.ends) l.known v
