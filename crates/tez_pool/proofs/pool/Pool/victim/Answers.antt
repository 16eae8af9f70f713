use Rattle.std.proofs.Common.{subst, sym, ap, ◌∙◌}
use Rattle.tez_pool.specs.Victim.{AreIn}
use Rattle.tez_pool.proofs.pool.Pool.victim.Goals as goal

pub victim-requires : goal.victim-requires
victim-requires c = subst (AreIn c.args.plan.now) (sym (c.as_slice.ensures.value ∙ ap (λ v. v.places) c.self.view_is)) c.requires
