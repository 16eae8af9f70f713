use Rattle.std.proofs.Common.{◌≡◌, ◌++◌}
use Rattle.std.specs.List.{flat_map}
use Rattle.tez_record.specs.Line.{lines}
use Rattle.tez_plan.specs.declared.parts.Step.TheVariants.{Tokenise}
use Rattle.tez_values.specs.Steps.{step_rows}
use Rattle.tez_plain.proofs.steps.tokenise.Given as goal

abbrev pub invariant-loop-line : goal.invariant-loop-line
invariant-loop-line l = l.made ++ flat_map (step_rows Tokenise) (lines l.line-iterator.rest.now) ≡ flat_map (step_rows Tokenise) l.fn.rows
