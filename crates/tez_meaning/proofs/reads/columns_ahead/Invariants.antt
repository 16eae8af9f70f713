use Rattle.std.proofs.Common.{◌≡◌, [], filter, take}
use Rattle.tez_meaning.specs.Known.{is_ahead}
use Rattle.tez_meaning.proofs.reads.columns_ahead.Given as goal

abbrev pub invariant-loop-e : goal.invariant-loop-e
invariant-loop-e l = filter (is_ahead l.fn.plan l.fn.v.0 l.fn.head l.fn.left) (take l.e l.fn.plan.edges) ≡ []
