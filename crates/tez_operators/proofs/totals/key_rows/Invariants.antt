use Rattle.std.proofs.Common.{◌≡◌, ◌++◌, map}
use Rattle.tez_operators.proofs.totals.key_rows.Given as goal

abbrev pub invariant-loop-key : goal.invariant-loop-key
invariant-loop-key l = l.rows ++ l.key-iterator ≡ map (λ e. e.0) l.fn.totals.entries
