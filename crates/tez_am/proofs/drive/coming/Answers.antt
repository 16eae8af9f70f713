use Rattle.std.proofs.Common.{IfSome, sym, subst}
use Rattle.tez_am.specs.Drive.{IsNoFail}
use Rattle.tez_am.proofs.Driving.{no_fail}
use Rattle.tez_am.proofs.drive.coming.Goals as goal

pub returns-in-None-clause-no_fail : goal.returns-in-None-clause-no_fail
returns-in-None-clause-no_fail c = subst (λ o. IfSome o IsNoFail) (sym c.next.ensures) (no_fail c.take_order.new.self.job c.take_order.new.self.conf c.take_order.new.self.phase c.take_order.new.self.past)
