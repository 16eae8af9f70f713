use Rattle.std.proofs.Common.{◌∙◌, false, ap, sym}
use Rattle.std.specs.Prelude.{slice_get, unwrap_or}
use Rattle.std.proofs.lemmas.Bool.{le-ltb}
use Rattle.tez_runs.specs.Flags.{covers}
use Rattle.tez_runs.proofs.FlagLemmas.{flags_test, flags_test_past}
use Rattle.tez_runs.proofs.set.Runs.is_set.Goals as goal

pub returns-then-i-self : goal.returns-then-i-self
returns-then-i-self c =
    c.holds.ensures ∙ ap (λ rs. covers rs c.args.i) c.as_slice.ensures.value ∙ sym (flags_test c.self.inside.bound c.self.inside.runs.items c.args.i c.if-i-self.true)
    ∙ ap (λ bs. unwrap_or (slice_get bs c.args.i) false) c.self.view_is

pub returns-else-i-self : goal.returns-else-i-self
returns-else-i-self c =
    le-ltb c.args.i c.self.inside.bound c.if-i-self.false ∙ sym (flags_test_past c.self.inside.bound c.self.inside.runs.items c.args.i c.if-i-self.false)
    ∙ ap (λ bs. unwrap_or (slice_get bs c.args.i) false) c.self.view_is
