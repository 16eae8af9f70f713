use Rattle.std.proofs.Common.{◌≡◌, ◌++◌}
use Rattle.std.specs.List.{flat_map, range_with_len}
use Rattle.tez_router.specs.Table.{input_notice}
use Rattle.tez_router.proofs.notices.add_inputs.Given as goal

abbrev pub invariant-loop-input : goal.invariant-loop-input
invariant-loop-input l = l.found.items ≡ l.fn.found.items ++ flat_map (input_notice l.link l.loss.task l.loss.lost l.attempt l.inputs) (range_with_len 0 l.input)
