use Rattle.std.specs.Prelude.{◌≡◌, ◌++◌, true, false, [], ◌∷◌, refl}
use Rattle.std.proofs.Common.{rules, sym, ◌∙◌, subst, arith}
use Rattle.std.proofs.lemmas.Grind.{common_steps}
use Rattle.std.specs.Vec.Iter.{into_iter_items}
use Rattle.tez_conf.specs.declared.values.ConfValues.{ConfValues}
use Rattle.tez_meaning.specs.Jobs.{Job}
use Rattle.tez_steps.specs.Step.{StepIs}
use Rattle.tez_world.specs.World.{RunParts}
use Rattle.tez_world.specs.Driving.{IsStopped}
use Rattle.tez_world.specs.Taking.{is_ended}
use Rattle.tez_world.proofs.Driven.{went_on, driven_end, driven_over, stopped_here, ended_over, goes_phase, stood, stands_next, driven_next, stopped_stands, stopped_after, faults_next, no_faults_next}
use Rattle.tez_world.proofs.StepLaws.{err_any}
use Rattle.tez_world.proofs.world.World.drive.Goals as goal

pub returns-then-ended-clause-steps : goal.returns-then-ended-clause-steps
returns-then-ended-clause-steps g c =
    let on : is_ended c.in_ok-took.took ≡ true = sym c.is_ended-ended.ensures ∙ c.if-ended.true in
    let step = subst (λ (d : ConfValues). StepIs c.args.self.now.run.job d c.loop-e.self.run.phase c.loop-e.self.run.past c.in-Some.e c.in_ok-took.took c.step.new.self.run.phase c.step.new.self.run.past) c.loop-e.invariant.conf
    (subst (λ (j : Job). StepIs j c.loop-e.self.run.conf c.loop-e.self.run.phase c.loop-e.self.run.past c.in-Some.e c.in_ok-took.took c.step.new.self.run.phase c.step.new.self.run.past) c.loop-e.invariant.job c.in_ok-took.ensures.step) in
    driven_over c.args.self.now.run.job c.args.self.now.run.conf c.args.self.now.run.phase c.args.self.now.run.past c.args.events.items c.push.new.self.items c.step.new.self.run.phase c.step.new.self.run.past (into_iter_items c.next.new.self)
    (ended_over c.args.self.now.run.job c.args.self.now.run.conf c.loop-e.self.run.phase c.step.new.self.run.phase c.loop-e.self.run.past c.step.new.self.run.past c.in-Some.e c.in_ok-took.took on step)
    (went_on c.args.self.now.run.job c.args.self.now.run.conf c.args.self.now.run.phase c.args.self.now.run.past c.args.events.items c.loop-e.tooks.items c.push.new.self.items c.loop-e.self.run.phase c.step.new.self.run.phase c.loop-e.self.run.past c.step.new.self.run.past (into_iter_items c.loop-e.e-iterator) (into_iter_items c.next.new.self) c.in-Some.e c.in_ok-took.took
    c.in-Some.ensures.steps.0 c.in_ok-push.ensures.items step c.loop-e.invariant.steps)

pub returns-then-ended-clause-store : goal.returns-then-ended-clause-store
returns-then-ended-clause-store g c = λ before going told.
    let k = c.loop-e.invariant.store before going told in
    driven_next (g.S.OutputStore.store c.step.new.self.store) before c.args.self.now.run.job c.loop-e.self.run.job c.step.new.self.run.past c.step.new.self.run.notes c.loop-e.tooks.items c.push.new.self.items c.in_ok-took.took c.loop-e.invariant.job c.in_ok-push.ensures.items
    (c.in_ok-took.ensures.store before k.0 (stood (g.S.OutputStore.store c.loop-e.self.store) before c.args.self.now.run.job c.loop-e.self.run.job c.loop-e.self.run.past c.loop-e.self.run.notes c.loop-e.tooks.items c.loop-e.invariant.job k.1))

pub loop-e-preserved : goal.loop-e-preserved
loop-e-preserved g c =
    let on : is_ended c.in_ok-took.took ≡ false = sym c.is_ended-ended.ensures ∙ c.if-ended.false in
    let step = subst (λ (d : ConfValues). StepIs c.args.self.now.run.job d c.loop-e.self.run.phase c.loop-e.self.run.past c.in-Some.e c.in_ok-took.took c.step.new.self.run.phase c.step.new.self.run.past) c.loop-e.invariant.conf
    (subst (λ (j : Job). StepIs j c.loop-e.self.run.conf c.loop-e.self.run.phase c.loop-e.self.run.past c.in-Some.e c.in_ok-took.took c.step.new.self.run.phase c.step.new.self.run.past) c.loop-e.invariant.job c.in_ok-took.ensures.step) in
    let before_faults = c.loop-e.invariant.later.0 in
    let before_stops = c.loop-e.invariant.later.1 in
    let more_faults = c.in_ok-took.ensures.later.0 in
    let more_stops = c.in_ok-took.ensures.later.1 in
    record {
      job = c.in_ok-took.ensures.job ∙ c.loop-e.invariant.job;
      conf = c.in_ok-took.ensures.conf ∙ c.loop-e.invariant.conf;
      disk = c.in_ok-took.ensures.disk ∙ c.loop-e.invariant.disk;
      steps = went_on c.args.self.now.run.job c.args.self.now.run.conf c.args.self.now.run.phase c.args.self.now.run.past c.args.events.items c.loop-e.tooks.items c.push.new.self.items c.loop-e.self.run.phase c.step.new.self.run.phase c.loop-e.self.run.past c.step.new.self.run.past (into_iter_items c.loop-e.e-iterator) (into_iter_items c.next.new.self) c.in-Some.e c.in_ok-took.took
          c.in-Some.ensures.steps.0 c.in_ok-push.ensures.items step c.loop-e.invariant.steps;
      store = λ before going told.
          let k = c.loop-e.invariant.store before going told in (
            goes_phase c.args.self.now.run.job c.args.self.now.run.conf c.loop-e.self.run.phase c.step.new.self.run.phase c.loop-e.self.run.past c.step.new.self.run.past c.in-Some.e c.in_ok-took.took on k.0 step,
            stands_next (g.S.OutputStore.store c.step.new.self.store) before c.args.self.now.run.job c.loop-e.self.run.job c.step.new.self.run.past c.step.new.self.run.notes c.loop-e.tooks.items c.push.new.self.items c.in_ok-took.took c.loop-e.invariant.job c.in_ok-push.ensures.items on
                (c.in_ok-took.ensures.store before k.0 (stood (g.S.OutputStore.store c.loop-e.self.store) before c.args.self.now.run.job c.loop-e.self.run.job c.loop-e.self.run.past c.loop-e.self.run.notes c.loop-e.tooks.items c.loop-e.invariant.job k.1)),
          );
      trace = c.in_ok-took.ensures.trace;
      goes_on = c.in_ok-took.ensures.goes_on;
      later = (omega (arith, before_faults, more_faults), omega (arith, before_stops, more_stops));
      faults = faults_next _ _ _ _ _ _ c.loop-e.tooks.items c.push.new.self.items c.in_ok-took.took c.in_ok-push.ensures.items before_faults before_stops more_faults more_stops c.loop-e.invariant.faults c.in_ok-took.ensures.fault;
      lent = c.in_ok-took.ensures.lent ∙ c.loop-e.invariant.lent;
      stays_sure = λ sure. c.in_ok-took.ensures.stays_sure (c.loop-e.invariant.stays_sure sure);
      sure = λ before going sure told.
          let k = c.loop-e.invariant.store before going told in
          no_faults_next c.loop-e.tooks.items c.push.new.self.items c.in_ok-took.took c.in_ok-push.ensures.items (c.loop-e.invariant.sure before going sure told)
          (c.in_ok-took.ensures.sure before (c.loop-e.invariant.stays_sure sure) (stood (g.S.OutputStore.store c.loop-e.self.store) before c.args.self.now.run.job c.loop-e.self.run.job c.loop-e.self.run.past c.loop-e.self.run.notes c.loop-e.tooks.items c.loop-e.invariant.job k.1));
    }

pub returns-clause-steps : goal.returns-clause-steps
returns-clause-steps g c =
    let steps = c.in-None.ensures.steps.0 in
    let none : into_iter_items c.loop-e.e-iterator ≡ [] = search (rules, common_steps, steps) in
    driven_end c.args.self.now.run.job c.args.self.now.run.conf c.args.self.now.run.phase c.args.self.now.run.past c.args.events.items c.loop-e.tooks.items c.loop-e.self.run.phase c.loop-e.self.run.past (into_iter_items c.loop-e.e-iterator) none c.loop-e.invariant.steps

-- memory is short in a step, or for its answer

pub returns-in_err-took-clause-refused : goal.returns-in_err-took-clause-refused
returns-in_err-took-clause-refused g c =
    err_any c.from_residual-in_err-took.result _
    (subst (λ (w : RunParts). IsStopped c.args.self.now.run.job c.args.self.now.run.conf c.args.self.now.run.phase c.args.self.now.run.past c.args.events.items w.phase w.past) (sym c.in_err-took.ensures.refused)
    (stopped_here c.args.self.now.run.job c.args.self.now.run.conf c.args.self.now.run.phase c.args.self.now.run.past c.args.events.items c.loop-e.tooks.items c.loop-e.self.run.phase c.loop-e.self.run.past (into_iter_items c.loop-e.e-iterator) c.loop-e.invariant.steps))

pub returns-in_err-took-clause-store_refused : goal.returns-in_err-took-clause-store_refused
returns-in_err-took-clause-store_refused g c = λ before going told.
    let k = c.loop-e.invariant.store before going told in
    err_any c.from_residual-in_err-took.result _
    (stopped_stands (g.S.OutputStore.store c.step.new.self.store) before c.args.self.now.run.job c.loop-e.self.run.job c.step.new.self.run.past c.step.new.self.run.notes c.loop-e.invariant.job
    (c.in_err-took.ensures.store_refused before k.0 (stood (g.S.OutputStore.store c.loop-e.self.store) before c.args.self.now.run.job c.loop-e.self.run.job c.loop-e.self.run.past c.loop-e.self.run.notes c.loop-e.tooks.items c.loop-e.invariant.job k.1)))

pub returns-in_err-push-clause-refused : goal.returns-in_err-push-clause-refused
returns-in_err-push-clause-refused g c =
    let step = subst (λ (d : ConfValues). StepIs c.args.self.now.run.job d c.loop-e.self.run.phase c.loop-e.self.run.past c.in-Some.e c.in_ok-took.took c.step.new.self.run.phase c.step.new.self.run.past) c.loop-e.invariant.conf
    (subst (λ (j : Job). StepIs j c.loop-e.self.run.conf c.loop-e.self.run.phase c.loop-e.self.run.past c.in-Some.e c.in_ok-took.took c.step.new.self.run.phase c.step.new.self.run.past) c.loop-e.invariant.job c.in_ok-took.ensures.step) in
    err_any c.from_residual-in_err-push.result _
    (stopped_here c.args.self.now.run.job c.args.self.now.run.conf c.args.self.now.run.phase c.args.self.now.run.past c.args.events.items (c.loop-e.tooks.items ++ c.in_ok-took.took ∷ []) c.step.new.self.run.phase c.step.new.self.run.past (into_iter_items c.next.new.self)
    (went_on c.args.self.now.run.job c.args.self.now.run.conf c.args.self.now.run.phase c.args.self.now.run.past c.args.events.items c.loop-e.tooks.items (c.loop-e.tooks.items ++ c.in_ok-took.took ∷ []) c.loop-e.self.run.phase c.step.new.self.run.phase c.loop-e.self.run.past c.step.new.self.run.past (into_iter_items c.loop-e.e-iterator) (into_iter_items c.next.new.self) c.in-Some.e c.in_ok-took.took
    c.in-Some.ensures.steps.0 refl step c.loop-e.invariant.steps))

pub returns-in_err-push-clause-store_refused : goal.returns-in_err-push-clause-store_refused
returns-in_err-push-clause-store_refused g c = λ before going told.
    let k = c.loop-e.invariant.store before going told in
    err_any c.from_residual-in_err-push.result _
    (stopped_after (g.S.OutputStore.store c.step.new.self.store) before c.args.self.now.run.job c.loop-e.self.run.job c.step.new.self.run.past c.step.new.self.run.notes c.in_ok-took.took c.loop-e.invariant.job
    (c.in_ok-took.ensures.store before k.0 (stood (g.S.OutputStore.store c.loop-e.self.store) before c.args.self.now.run.job c.loop-e.self.run.job c.loop-e.self.run.past c.loop-e.self.run.notes c.loop-e.tooks.items c.loop-e.invariant.job k.1)))

pub returns-then-ended-clause-fault : goal.returns-then-ended-clause-fault
returns-then-ended-clause-fault g c =
    faults_next _ _ _ _ _ _ c.loop-e.tooks.items c.push.new.self.items c.in_ok-took.took c.in_ok-push.ensures.items c.loop-e.invariant.later.0 c.loop-e.invariant.later.1 c.in_ok-took.ensures.later.0 c.in_ok-took.ensures.later.1 c.loop-e.invariant.faults c.in_ok-took.ensures.fault

pub returns-then-ended-clause-sure : goal.returns-then-ended-clause-sure
returns-then-ended-clause-sure g c = λ before going sure told.
    let k = c.loop-e.invariant.store before going told in
    no_faults_next c.loop-e.tooks.items c.push.new.self.items c.in_ok-took.took c.in_ok-push.ensures.items (c.loop-e.invariant.sure before going sure told)
    (c.in_ok-took.ensures.sure before (c.loop-e.invariant.stays_sure sure) (stood (g.S.OutputStore.store c.loop-e.self.store) before c.args.self.now.run.job c.loop-e.self.run.job c.loop-e.self.run.past c.loop-e.self.run.notes c.loop-e.tooks.items c.loop-e.invariant.job k.1))
