use Rattle.std.specs.Prelude.{◌≡◌}
use Rattle.tez_am.specs.Drive.{RunGoesOn, moment}
use Rattle.tez_am.proofs.drive.drive.Given as goal

abbrev pub invariant-loop-turn : goal.invariant-loop-turn
invariant-loop-turn g l = record {
  conf : l.run.conf ≡ l.initial.run.conf;
  goes : RunGoesOn (moment g.S.OutputStore.store g.S.OutputStore.faults g.S.OutputStore.stops l.initial.run l.initial.store) (moment g.S.OutputStore.store g.S.OutputStore.faults g.S.OutputStore.stops l.run l.store);
  lent : g.S.OutputStore.lent l.store ≡ g.S.OutputStore.lent l.initial.store;
  sure : g.S.OutputStore.is_sure l.initial.store → g.S.OutputStore.is_sure l.store;
}
