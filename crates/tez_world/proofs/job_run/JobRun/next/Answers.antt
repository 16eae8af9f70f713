use Rattle.std.specs.Prelude.{◌≡◌, Some}
use Rattle.std.proofs.Common.{ap, ◌∙◌}
use Rattle.tez_world.specs.World.{RunParts, next_in}
use Rattle.tez_world.proofs.RunLaws.{next_up}
use Rattle.tez_world.proofs.job_run.JobRun.next.Goals as goal

pub returns-in-Some : goal.returns-in-Some
returns-in-Some c =
    let here = c.in-Some.is in
    let running : c.self.inside.running ≡ Some c.in-Some.running = cc in
    c.core_event.ensures
    ∙ next_up c.self.inside.job c.self.inside.conf c.self.inside.running c.self.inside.over c.self.inside.log.past c.in-Some.running c.if-self.false running c.self.invariant.parts c.choice.ensures.0 c.choice.ensures.1 c.choice.result c.choice.ensures.2
    ∙ ap (λ (w : RunParts). next_in w.job w.conf w.phase w.past) c.self.view_is
