use Rattle.std.proofs.Common.{◌∙◌, length, ap, sym}
use Rattle.tez_runs.proofs.FlagLemmas.{flags_length}
use Rattle.tez_runs.proofs.set.Runs.len.Goals as goal

pub returns : goal.returns
returns c = sym (flags_length c.self.inside.bound c.self.inside.runs.items) ∙ ap length c.self.view_is
