use Rattle.std.specs.Prelude.{◌≡◌, Some}
use Rattle.std.proofs.Common.{ap, sym, ◌∙◌, subst}
use Rattle.tez_ports.specs.Content.{Told}
use Rattle.tez_world.specs.declared.opening.Began.TheVariants.{Up, Ended}
use Rattle.tez_steps.specs.Step.{Down, Over, SinksStand, StepIs, StoreAfter}
use Rattle.tez_world.specs.World.{RunParts}
use Rattle.tez_steps.specs.declared.verdict.Took.TheVariants.{Changed as TookChanged, Ended as TookEnded}
use Rattle.tez_steps.specs.Holds.{notes_of}
use Rattle.tez_world.specs.Holds.{phase_of, notes_from}
use Rattle.tez_world.proofs.Kept.{begun_world}
use Rattle.tez_world.proofs.RunLaws.{is_down, was_empty, up_step, up_stands, ended_steps, ended_stands, ended_fault}
use Rattle.tez_world.proofs.job_run.JobRun.begin.Goals as goal

pub invariant_of-self-in-Up : goal.invariant_of-self-in-Up
invariant_of-self-in-Up g c =
    let down : phase_of c.self.inside.running c.self.inside.over ≡ Down = ap (λ (w : RunParts). w.phase) c.self.view_is ∙ c.requires.down in
    let here = c.in-Up.is in
    let is : c.in_ok-running.field-0 ≡ Up c.in-Up.running = cc in
    begun_world c.self.inside.job c.self.inside.conf c.in-Up.running c.self.inside.over c.begin.new.log.past c.in_ok-running.field-0 (is_down c.self.inside.running c.self.inside.over down).0 is c.in_ok-running.ensures.began

pub returns-in-Up-clause-step : goal.returns-in-Up-clause-step
returns-in-Up-clause-step g c =
    let down : phase_of c.self.inside.running c.self.inside.over ≡ Down = ap (λ (w : RunParts). w.phase) c.self.view_is ∙ c.requires.down in
    let here = c.in-Up.is in
    let is : c.in_ok-running.field-0 ≡ Up c.in-Up.running = cc in
    subst (λ (w : RunParts). StepIs w.job w.conf w.phase w.past c.args.e TookChanged (phase_of (Some c.in-Up.running) c.self.inside.over) c.begin.new.log.past) c.self.view_is
    (up_step c.self.inside.job c.self.inside.conf (phase_of c.self.inside.running c.self.inside.over) c.self.inside.log.past c.args.e c.in-Up.running c.self.inside.over c.begin.new.log.past c.in_ok-running.field-0 down (is_down c.self.inside.running c.self.inside.over down).0 (sym c.if-not-is_open.ensures) is c.in_ok-running.ensures.began)

pub returns-in-Up-clause-store : goal.returns-in-Up-clause-store
returns-in-Up-clause-store g c = λ before told.
    let down : phase_of c.self.inside.running c.self.inside.over ≡ Down = ap (λ (w : RunParts). w.phase) c.self.view_is ∙ c.requires.down in
    let here = c.in-Up.is in
    let is : c.in_ok-running.field-0 ≡ Up c.in-Up.running = cc in
    let empty = was_empty c.self.inside.job c.self.inside.conf c.self.inside.running c.self.inside.over c.self.inside.log.past down c.self.invariant.parts in
    subst (λ (w : RunParts). Told (g.S.OutputStore.store c.begin.new.store) (SinksStand w.job before c.begin.new.log.past (notes_of c.in-Up.running))) c.self.view_is
    (up_stands c.self.inside.job c.self.inside.conf before c.self.inside.log.past c.begin.new.log.past _ c.in-Up.running c.in_ok-running.field-0 (g.S.OutputStore.store c.args.store.now) (g.S.OutputStore.store c.begin.new.store) empty is c.in_ok-running.ensures.rows c.in_ok-running.ensures.began c.in_ok-running.ensures.same c.in_ok-running.ensures.store
    (subst (λ (w : RunParts). Told (g.S.OutputStore.store c.args.store.now) (SinksStand w.job before w.past w.notes)) (sym c.self.view_is) told))

pub returns-clause-step : goal.returns-clause-step
returns-clause-step g c =
    let down : phase_of c.self.inside.running c.self.inside.over ≡ Down = ap (λ (w : RunParts). w.phase) c.self.view_is ∙ c.requires.down in
    let here = c.in-Ended.is in
    let is : c.in_ok-running.field-0 ≡ Ended c.in-Ended.verdict = cc in
    let empty = was_empty c.self.inside.job c.self.inside.conf c.self.inside.running c.self.inside.over c.self.inside.log.past down c.self.invariant.parts in
    subst (λ (w : RunParts). StepIs w.job w.conf w.phase w.past c.args.e (TookEnded c.in-Ended.verdict) Over c.begin.new.log.past) c.self.view_is
    (ended_steps c.self.inside.job c.self.inside.conf (phase_of c.self.inside.running c.self.inside.over) c.self.inside.log.past c.args.e c.in-Ended.verdict c.begin.new.log.past c.in_ok-running.field-0 down empty is c.in_ok-running.ensures.began)

pub returns-clause-store : goal.returns-clause-store
returns-clause-store g c = λ before told.
    let down : phase_of c.self.inside.running c.self.inside.over ≡ Down = ap (λ (w : RunParts). w.phase) c.self.view_is ∙ c.requires.down in
    let here = c.in-Ended.is in
    let is : c.in_ok-running.field-0 ≡ Ended c.in-Ended.verdict = cc in
    let empty = was_empty c.self.inside.job c.self.inside.conf c.self.inside.running c.self.inside.over c.self.inside.log.past down c.self.invariant.parts in
    subst (λ (w : RunParts). Told (g.S.OutputStore.store c.begin.new.store) (StoreAfter w.job before (TookEnded c.in-Ended.verdict) c.begin.new.log.past (notes_from c.self.inside.running))) c.self.view_is
    (ended_stands c.self.inside.job c.self.inside.conf before c.self.inside.log.past c.begin.new.log.past (notes_from c.self.inside.running) (notes_from c.self.inside.running) c.in-Ended.verdict c.in_ok-running.field-0 (g.S.OutputStore.store c.args.store.now) (g.S.OutputStore.store c.begin.new.store) empty is c.in_ok-running.ensures.began c.in_ok-running.ensures.same c.in_ok-running.ensures.store
    (subst (λ (w : RunParts). Told (g.S.OutputStore.store c.args.store.now) (SinksStand w.job before w.past w.notes)) (sym c.self.view_is) told))

pub returns-clause-fault : goal.returns-clause-fault
returns-clause-fault g c =
    let here = c.in-Ended.is in
    let is : c.in_ok-running.field-0 ≡ Ended c.in-Ended.verdict = cc in
    ended_fault c.self.inside.job c.self.inside.conf c.begin.new.log.past c.in-Ended.verdict c.in_ok-running.field-0 _ _ _ _ is c.in_ok-running.ensures.began c.in_ok-running.ensures.fault
