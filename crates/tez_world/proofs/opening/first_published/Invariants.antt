use Rattle.std.specs.Prelude.{◌≡◌}
use Rattle.tez_ports.specs.Content.{Told}
use Rattle.tez_steps.specs.Step.{first_published}
use Rattle.tez_world.proofs.FirstSinks.{first_from}
use Rattle.tez_world.proofs.opening.first_published.Given as goal

abbrev pub invariant-loop-v : goal.invariant-loop-v
invariant-loop-v g l = record {
  same : g.S.OutputStore.store l.store ≡ g.S.OutputStore.store l.initial.store;
  faults : g.S.OutputStore.faults l.store ≡ g.S.OutputStore.faults l.initial.store;
  stops : g.S.OutputStore.stops l.store ≡ g.S.OutputStore.stops l.initial.store;
  lent : g.S.OutputStore.lent l.store ≡ g.S.OutputStore.lent l.initial.store;
  sure : g.S.OutputStore.is_sure l.initial.store → g.S.OutputStore.is_sure l.store;
  passed : Told (g.S.OutputStore.store l.initial.store) (λ s. first_published l.fn.job.plan s.publications ≡ first_from l.fn.job.plan s.publications l.v);
}
