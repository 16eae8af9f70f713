use Rattle.std.proofs.Common.{◌∙◌, ap, sym, option_and_then}
use Rattle.tez_master_model.specs.Choice.{first_queued}
use Rattle.tez_core.specs.Choosing.{queued_at}
use Rattle.tez_lead.proofs.First.{first_read}
use Rattle.tez_lead.proofs.parts.Lead.first_queued.Goals as goal

pub returns-in-Some : goal.returns-in-Some
returns-in-Some c =
    let m = c.self.inside.core in
    c.queued_of.ensures
    ∙ ap (option_and_then (queued_at m.vertices)) (sym c.in-Some.is ∙ c.first.ensures)
    ∙ first_read m c.self.invariant.fit.vertices c.self.inside.queue c.self.invariant.queue
    ∙ ap first_queued c.self.view_is

pub returns-in-None : goal.returns-in-None
returns-in-None c =
    let m = c.self.inside.core in
    ap (option_and_then (queued_at m.vertices)) (sym c.in-None.is ∙ c.first.ensures)
    ∙ first_read m c.self.invariant.fit.vertices c.self.inside.queue c.self.invariant.queue
    ∙ ap first_queued c.self.view_is
