use Rattle.std.proofs.Common.{sym, subst}
use Rattle.tez_pool.specs.Victim.{AreIn}
use Rattle.tez_master_model.specs.State.{MasterState}
use Rattle.tez_core.proofs.parts.Core.victim.Goals as goal

pub victim-requires : goal.victim-requires
victim-requires c = subst (λ (s : MasterState). AreIn s.plan s.pool.places) (sym c.self.view_is) c.requires
