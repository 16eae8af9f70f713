use Rattle.std.specs.Prelude.{◌≡◌}
use Rattle.std.proofs.Common.{subst}
use Rattle.tez_steps.specs.Step.{Up}
use Rattle.tez_world.specs.World.{RunParts}
use Rattle.tez_world.specs.Lawful.{IsTrace, IsGoing}
use Rattle.tez_world.proofs.WellLaws.{trace_of, going}
use Rattle.tez_world.proofs.job_run.JobRun.is_lawful.Goals as goal

pub returns-clause-trace : goal.returns-clause-trace
returns-clause-trace c =
    subst (λ (w : RunParts). IsTrace w.job w.conf w.past) c.self.view_is (trace_of c.self.inside.job c.self.inside.conf c.self.inside.running c.self.inside.over c.self.inside.log.past c.self.invariant)

pub returns-clause-goes_on : goal.returns-clause-goes_on
returns-clause-goes_on c =
    subst (λ (w : RunParts). w.phase ≡ Up → IsGoing w.job.plan w.conf w.past) c.self.view_is (going c.self.inside.job c.self.inside.conf c.self.inside.running c.self.inside.over c.self.inside.log.past c.self.invariant)
