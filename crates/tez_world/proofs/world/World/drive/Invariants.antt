use Rattle.std.specs.Prelude.{◌≡◌, ◌≢◌, ◌≤◌}
use Rattle.std.specs.Vec.Iter.{into_iter_items}
use Rattle.tez_ports.specs.Content.{Named, Told}
use Rattle.tez_steps.specs.Step.{Up, Over, SinksStand}
use Rattle.tez_world.specs.Lawful.{IsTrace, IsGoing}
use Rattle.tez_world.specs.Driving.{StoreDriven, FaultsAre, AreNoFaults}
use Rattle.tez_world.proofs.Driven.{Leads}
use Rattle.tez_world.proofs.world.World.drive.Given as goal

abbrev pub invariant-loop-e : goal.invariant-loop-e
invariant-loop-e g l = record {
  job : l.self.run.job ≡ l.initial.self.run.job;
  conf : l.self.run.conf ≡ l.initial.self.run.conf;
  disk : l.self.disk ≡ l.initial.self.disk;
  steps : Leads l.initial.self.run.job l.initial.self.run.conf l.initial.self.run.phase l.initial.self.run.past l.fn.events.items l.tooks.items l.self.run.phase l.self.run.past (into_iter_items l.e-iterator);
  store : (before : Named) → l.initial.self.run.phase ≢ Over → Told (g.S.OutputStore.store l.initial.self.store) (SinksStand l.initial.self.run.job before l.initial.self.run.past l.initial.self.run.notes)
      → (l.self.run.phase ≢ Over) × Told (g.S.OutputStore.store l.self.store) (λ s. SinksStand l.initial.self.run.job before l.self.run.past l.self.run.notes s × StoreDriven l.initial.self.run.job before l.tooks.items l.self.run.past l.self.run.notes s);
  trace : IsTrace l.self.run.job l.self.run.conf l.self.run.past;
  goes_on : l.self.run.phase ≡ Up → IsGoing l.self.run.job.plan l.self.run.conf l.self.run.past;
  later : (g.S.OutputStore.faults l.initial.self.store ≤ g.S.OutputStore.faults l.self.store) × (g.S.OutputStore.stops l.initial.self.store ≤ g.S.OutputStore.stops l.self.store);
  faults : FaultsAre (g.S.OutputStore.faults l.initial.self.store) (g.S.OutputStore.stops l.initial.self.store) (g.S.OutputStore.faults l.self.store) (g.S.OutputStore.stops l.self.store) l.tooks.items;
  lent : g.S.OutputStore.lent l.self.store ≡ g.S.OutputStore.lent l.initial.self.store;
  stays_sure : g.S.OutputStore.is_sure l.initial.self.store → g.S.OutputStore.is_sure l.self.store;
  sure : (before : Named) → l.initial.self.run.phase ≢ Over → g.S.OutputStore.is_sure l.initial.self.store → Told (g.S.OutputStore.store l.initial.self.store) (SinksStand l.initial.self.run.job before l.initial.self.run.past l.initial.self.run.notes) → AreNoFaults l.tooks.items;
}
