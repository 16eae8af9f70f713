use Rattle.std.proofs.Common.{◌≡◌, ◌-◌, ◌∙◌, not, ap, arith}
use Rattle.std.specs.List.{count_by}
use Rattle.tez_runs.specs.Flags.{flags}
use Rattle.tez_runs.proofs.FlagLemmas.{flags_counted}
use Rattle.tez_runs.proofs.set.Runs.missing.Goals as goal

pub overflow_sub-result : goal.overflow_sub-result
overflow_sub-result c =
    let whole = flags_counted c.self.inside.bound c.self.inside.runs.items in
    let is = c.self.invariant.counted in
    omega arith

pub returns : goal.returns
returns c =
    let whole = flags_counted c.self.inside.bound c.self.inside.runs.items in
    let is = c.self.invariant.counted in
    let rest : c.self.inside.bound - c.self.inside.set ≡ count_by not (flags c.self.inside.bound c.self.inside.runs.items) = omega arith in
    rest ∙ ap (count_by not) c.self.view_is
