use Rattle.std.specs.Prelude.{IfOk}
use Rattle.std.proofs.Common.{ap, sym, ◌∙◌, subst}
use Rattle.tez_ports.specs.Content.{Told}
use Rattle.tez_meaning.specs.Jobs.{Job}
use Rattle.tez_steps.specs.Step.{SinksStand, StoreAfter}
use Rattle.tez_world.specs.World.{RunParts}
use Rattle.tez_world.proofs.world.World.step.Goals as goal

pub returns-clause-store : goal.returns-clause-store
returns-clause-store g c = λ before going told.
    let run = ap (λ w. w.run) c.self.view_is in
    let store = ap (λ w. w.store) c.self.view_is in
    subst (λ (j : Job). IfOk c.step-took.result (λ took. Told (g.S.OutputStore.store c.step-took.new.store) (StoreAfter j before took c.step-took.new.self.past c.step-took.new.self.notes))) (ap (λ (r : RunParts). r.job) run)
    (c.step-took.ensures.store before (λ over. going (sym (ap (λ (r : RunParts). r.phase) run) ∙ over))
    (subst (λ (r : RunParts). Told (g.S.OutputStore.store c.self.inside.store) (SinksStand r.job before r.past r.notes)) (sym run)
    (subst (λ s. Told (g.S.OutputStore.store s) (SinksStand c.args.self.now.run.job before c.args.self.now.run.past c.args.self.now.run.notes)) (sym store) told)))
