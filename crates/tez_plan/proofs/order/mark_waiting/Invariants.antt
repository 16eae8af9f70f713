use Rattle.std.proofs.Common.{◌≡◌, ◌<◌, ℕ, false, length, take, get_or}
use Rattle.tez_plan.specs.Graph.{waits_for}
use Rattle.tez_plan.proofs.order.mark_waiting.Given as goal

abbrev pub invariant-loop-source : goal.invariant-loop-source
invariant-loop-source l = (v : ℕ) → v < length l.waits → get_or l.waits v false ≡ waits_for (take l.source-index l.ends) l.out v
