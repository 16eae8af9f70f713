use Rattle.std.proofs.Common.{◌≡◌, Some, ap, sym, ◌∙◌}
use Rattle.tez_core.specs.Choosing.{work_choice}
use Rattle.tez_lead.proofs.WorkFirst.{work_first}
use Rattle.tez_lead.proofs.parts.Lead.running_choice.Goals as goal

pub returns-in-Some : goal.returns-in-Some
returns-in-Some c =
    let found : work_choice c.self.inside.core ≡ Some c.in-Some.e = sym c.work_choice.ensures ∙ c.in-Some.is in
    work_first c.args.self.now c.args.victim c.in-Some.e (sym (ap work_choice c.self.view_is) ∙ found)
