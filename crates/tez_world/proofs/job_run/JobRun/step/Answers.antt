use Rattle.std.specs.Prelude.{◌≡◌, Some, IfOk}
use Rattle.std.proofs.Common.{ap, sym, subst}
use Rattle.tez_ports.specs.Content.{Told}
use Rattle.tez_meaning.specs.Jobs.{Job}
use Rattle.tez_steps.specs.Step.{SinksStand, StoreAfter}
use Rattle.tez_world.specs.World.{RunParts}
use Rattle.tez_steps.specs.Holds.{notes_of}
use Rattle.tez_world.specs.Holds.{IsWorld}
use Rattle.tez_world.proofs.Kept.{took_world}
use Rattle.tez_world.proofs.RunLaws.{world_inside, told_inside}
use Rattle.tez_world.proofs.StepLaws.{err_any}
use Rattle.tez_world.proofs.job_run.JobRun.step.Goals as goal

pub returns-in_default-clause-store : goal.returns-in_default-clause-store
returns-in_default-clause-store g c = λ before going told.
    subst (λ (j : Job). IfOk c.begin.result (λ took. Told (g.S.OutputStore.store c.begin.new.store) (StoreAfter j before took c.begin.new.self.past c.begin.new.self.notes))) (ap (λ (w : RunParts). w.job) c.self.view_is)
    (c.begin.ensures.store before (subst (λ (w : RunParts). Told (g.S.OutputStore.store c.args.store.now) (SinksStand w.job before w.past w.notes)) (sym c.self.view_is) told))

pub returns-in_err-took-clause-store_refused : goal.returns-in_err-took-clause-store_refused
returns-in_err-took-clause-store_refused g c = λ before going told.
    let here = c.in-Some.is in
    let running : c.self.inside.running ≡ Some c.in-Some.running = cc in
    err_any c.from_residual.result _
    (subst (λ (j : Job). Told (g.S.OutputStore.store c.take.new.store) (SinksStand j before c.take.new.log.past (notes_of c.take.new.running))) (ap (λ (w : RunParts). w.job) c.self.view_is)
    (c.in_err-took.ensures.leaves.store_refused before (told_inside (g.S.OutputStore.store c.args.store.now) before c.self.inside.job c.self.inside.log.past c.self.inside.running c.in-Some.running running
    (subst (λ (w : RunParts). Told (g.S.OutputStore.store c.args.store.now) (SinksStand w.job before w.past w.notes)) (sym c.self.view_is) told))))

pub invariant_of-self-2 : goal.invariant_of-self-2
invariant_of-self-2 g c =
    let here = c.in-Some.is in
    let running : c.self.inside.running ≡ Some c.in-Some.running = cc in
    let world = world_inside c.self.inside.job c.self.inside.conf c.self.inside.running c.self.inside.over c.self.inside.log.past c.in-Some.running c.if-self.false running c.self.invariant in
    subst (λ b. IsWorld c.self.inside.job c.self.inside.conf (Some c.take.new.running) b c.take.new.log.past) (sym c.is_ended-self-inside.ensures)
    (took_world c.self.inside.job c.self.inside.conf c.args.e c.in-Some.running c.self.inside.log c.in_ok-took.took c.take.new.running c.take.new.log world c.in_ok-took.ensures.taken)
