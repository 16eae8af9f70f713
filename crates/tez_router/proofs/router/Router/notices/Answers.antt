use Rattle.std.proofs.Common.{◌≡◌, IfOk, subst}
use Rattle.tez_router.specs.State.{RouterState}
use Rattle.tez_router.specs.Table.{notices_in}
use Rattle.tez_router.proofs.Firsts.{without_none}
use Rattle.tez_router.proofs.router.Router.notices.Goals as goal

pub returns : goal.returns
returns c = subst (λ (s : RouterState). IfOk c.notices_except.result (λ found. found.items ≡ notices_in s c.args.t)) (without_none c.args.self.now) c.notices_except.ensures
