use Rattle.std.proofs.Common.{◌≡◌, ◌++◌, take}
use Rattle.std.specs.List.{flat_map}
use Rattle.tez_router.specs.Table.{without}
use Rattle.tez_master_model.specs.Entries.{withdrawal_in}
use Rattle.tez_entries.proofs.loss.add_withdrawals.Given as goal

abbrev pub invariant-loop-w : goal.invariant-loop-w
invariant-loop-w l = l.entries.items ≡ l.fn.entries.items ++ flat_map (withdrawal_in l.m (without l.m.router l.held)) (take l.w-index l.lost)
