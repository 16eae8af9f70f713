use Rattle.std.proofs.Common.{◌∙◌, ap}
use Rattle.tez_ids.specs.declared.VertexId.{VertexId}
use Rattle.tez_master_model.specs.State.{MasterState}
use Rattle.tez_master_model.specs.Settled.{settled}
use Rattle.tez_events.specs.declared.CoreEvent.TheVariants.{Configure}
use Rattle.tez_lead.proofs.Configuring.{configure_kept}
use Rattle.tez_lead.proofs.parts.Lead.configure_prepared.Goals as goal

pub invariant_of-self : goal.invariant_of-self
invariant_of-self c =
    let m : MasterState = c.self.inside.core in
    configure_kept m c.configure_prepared.new.self c.self.inside.queue c.args.v c.configuration-fits.result c.configuration-fits.ensures.value c.configuration-fits.ensures.fits c.self.invariant
    (c.configure_prepared.ensures ∙ ap (λ (v : VertexId). settled m (Configure v)) c.requires.prepared.vertex)
