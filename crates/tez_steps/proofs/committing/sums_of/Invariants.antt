use Rattle.std.specs.Prelude.{◌≡◌, map, slice_index_or}
use Rattle.std.specs.List.{filter}
use Rattle.tez_lists.specs.Numbers.{numbers_from}
use Rattle.tez_history.specs.Shape.{has_sink}
use Rattle.tez_steps.proofs.committing.sums_of.Given as goal

abbrev pub invariant-loop-v : goal.invariant-loop-v
invariant-loop-v l = l.sums.items ≡ map (λ v. slice_index_or l.fn.texts v (0, 0)) (filter (has_sink l.fn.job.plan) (numbers_from 0 l.v))
