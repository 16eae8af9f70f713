use Rattle.std.proofs.Common.{◌≡◌, ◌++◌, ◌∷◌, []}
use Rattle.std.specs.List.{flat_map}
use Rattle.tez_record.specs.Line.{lines}
use Rattle.tez_record.specs.Field.{key}
use Rattle.tez_plain.proofs.steps.project.Given as goal

abbrev pub invariant-loop-line : goal.invariant-loop-line
invariant-loop-line l = l.made ++ flat_map (λ r. key l.fn.cols r ∷ []) (lines l.line-iterator.rest.now) ≡ flat_map (λ r. key l.fn.cols r ∷ []) l.fn.rows
