use Rattle.std.proofs.Common.{◌≡◌, None, is_some}
use Rattle.std.specs.List.{find}
use Rattle.tez_lists.specs.Numbers.{numbers_from}
use Rattle.tez_schedule.specs.Table.{configures_at}
use Rattle.tez_schedule.proofs.schedule.Schedule.next_configure.Given as goal

abbrev pub invariant-loop-v : goal.invariant-loop-v
invariant-loop-v l = find (λ v. is_some (configures_at l.self v)) (numbers_from 0 l.v) ≡ None
