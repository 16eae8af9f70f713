use Rattle.std.proofs.Common.{◌≡◌, ◌++◌, length}
use Rattle.std.specs.List.{flat_map}
use Rattle.tez_record.specs.Line.{lines}
use Rattle.tez_plan.specs.declared.parts.Step.TheVariants.{Tokenise}
use Rattle.tez_values.specs.Steps.{step_rows}
use Rattle.tez_operators.specs.Fuse.{made_of}
use Rattle.tez_operators.proofs.fuse.+push_made.Given as goal

abbrev pub invariant-loop-word : goal.invariant-loop-word
invariant-loop-word l = l.made ++ flat_map (made_of l.rest) (lines l.word-iterator.rest.now) ≡ l.fn.made ++ flat_map (made_of l.rest) (step_rows Tokenise l.fn.line)

abbrev pub decreases-push_made : goal.decreases-push_made
decreases-push_made l = length l.steps.now
