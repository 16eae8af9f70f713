use Rattle.std.specs.Prelude.{◌≢◌}
use Rattle.std.proofs.Common.{subst}
use Rattle.tez_ports.specs.Content.{Named, Store}
use Rattle.tez_world_invariant.specs.Store.{HasPublished}
use Rattle.tez_steps.specs.Step.{Over, SinksStand}
use Rattle.tez_world.specs.World.{RunParts}
use Rattle.tez_world.proofs.RunLaws.{in_order}
use Rattle.tez_world.proofs.job_run.JobRun.publishes_in_order.Goals as goal

pub returns : goal.returns
returns c =
    subst (λ (w : RunParts). (before : Named) (s : Store) → w.phase ≢ Over → SinksStand w.job before w.past w.notes s → HasPublished w.job before s) c.self.view_is
    (λ before s going stands. in_order c.self.inside.job c.self.inside.conf c.self.inside.running c.self.inside.over c.self.inside.log.past before _ s c.self.invariant.parts going stands)
