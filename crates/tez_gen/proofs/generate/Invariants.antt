use Rattle.std.proofs.Common.{◌≡◌, ◌++◌, ◌-◌, string_bytes}
use Rattle.tez_gen.specs.Generate.{text_after}
use Rattle.tez_gen.proofs.generate.Given as goal

abbrev pub invariant-loop-line : goal.invariant-loop-line
invariant-loop-line l = string_bytes l.text ++ text_after l.x (l.lines - l._line) ≡ text_after l.seed l.lines
