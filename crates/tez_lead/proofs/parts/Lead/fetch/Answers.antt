use Rattle.std.proofs.Common.{◌∙◌, ap, sym}
use Rattle.tez_master_model.specs.Settled.{after_fetch}
use Rattle.tez_lead.proofs.Steps.{kept_after, fetch_steps}
use Rattle.tez_lead.proofs.parts.Lead.fetch.Goals as goal

pub invariant_of-self : goal.invariant_of-self
invariant_of-self c =
    let m = c.self.inside.core in
    let w = c.in-Some.w in
    let is = c.fetch.ensures ∙ ap (after_fetch m c.args.a c.args.e.0 c.args.input) (sym c.source_of.ensures ∙ c.in-Some.is) in
    kept_after _ _ _ _ _ c.in-Some.w.task c.self.invariant is (fetch_steps m c.args.a c.args.e.0 c.args.input w) c.refresh.ensures
