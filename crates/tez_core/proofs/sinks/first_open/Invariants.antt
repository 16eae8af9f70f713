use Rattle.std.proofs.Common.{◌≡◌, ◌&&◌, None, not}
use Rattle.std.specs.List.{find}
use Rattle.tez_lists.specs.Numbers.{numbers_from}
use Rattle.tez_history.specs.Shape.{has_sink}
use Rattle.tez_master_model.specs.Read.{flag}
use Rattle.tez_core.proofs.sinks.first_open.Given as goal

abbrev pub invariant-loop-v : goal.invariant-loop-v
invariant-loop-v l = find (λ v. has_sink l.p v && not (flag l.done v)) (numbers_from 0 l.v) ≡ None
