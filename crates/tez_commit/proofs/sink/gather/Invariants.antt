use Rattle.std.proofs.Common.{◌≡◌, take}
use Rattle.tez_ports.specs.Content.{Told}
use Rattle.tez_commit.specs.Merge.{AreStaged, staged_records}
use Rattle.tez_commit.proofs.sink.gather.Given as goal

abbrev pub invariant-loop-winner : goal.invariant-loop-winner
invariant-loop-winner g l = record {
  same : g.S.OutputStore.store l.store ≡ g.S.OutputStore.store l.fn.store;
  faults : g.S.OutputStore.faults l.store ≡ g.S.OutputStore.faults l.fn.store;
  stops : g.S.OutputStore.stops l.store ≡ g.S.OutputStore.stops l.fn.store;
  lent : g.S.OutputStore.lent l.store ≡ g.S.OutputStore.lent l.fn.store;
  faultless : g.S.OutputStore.is_faultless l.fn.store → g.S.OutputStore.is_faultless l.store;
  sure : g.S.OutputStore.is_sure l.fn.store → g.S.OutputStore.is_sure l.store;
  staged : Told (g.S.OutputStore.store l.fn.store) (λ s. AreStaged s.staged (take l.winner-index l.winners));
  records : Told (g.S.OutputStore.store l.fn.store) (λ s. l.records ≡ staged_records s.staged (take l.winner-index l.winners));
}
