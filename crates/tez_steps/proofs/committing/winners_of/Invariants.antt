use Rattle.std.specs.Prelude.{◌≡◌}
use Rattle.std.specs.List.{filter_map}
use Rattle.tez_ids.specs.Same.{task}
use Rattle.tez_lists.specs.Numbers.{numbers_from}
use Rattle.tez_master_model.specs.Read.{winner_in}
use Rattle.tez_steps.proofs.committing.winners_of.Given as goal

abbrev pub invariant-loop-index : goal.invariant-loop-index
invariant-loop-index l = l.winners.items ≡ filter_map (λ i. winner_in l.fn.running.master.state (task l.fn.v.0 i)) (numbers_from 0 l.index)
