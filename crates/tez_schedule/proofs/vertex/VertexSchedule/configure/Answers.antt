use Rattle.std.proofs.Common.{◌∙◌, sym, ap, subst}
use Rattle.tez_schedule.specs.Kept.{Fits}
use Rattle.tez_schedule.proofs.VertexLemmas.{open_sized, configured_kept}
use Rattle.tez_schedule.proofs.vertex.VertexSchedule.configure.Goals as goal

pub reopen-requires : goal.reopen-requires
reopen-requires c = sym (open_sized _ _ c.self.invariant)

pub invariant_of-self : goal.invariant_of-self
invariant_of-self c = rw c.reopen.ensures (configured_kept _ _ c.args.config c.self.invariant (ap (λ x. x.config) c.self.view_is ∙ c.requires.open) (subst (λ x. Fits x.planned c.args.config) (sym c.self.view_is) c.requires.fits))
