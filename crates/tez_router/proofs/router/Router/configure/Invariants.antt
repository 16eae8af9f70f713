use Rattle.std.proofs.Common.{◌≡◌, length}
use Rattle.tez_router.specs.Configure.{after_set_edges, links_for, links_from, CanConfigureFrom}
use Rattle.tez_router.proofs.router.Router.configure.Given as goal

abbrev pub invariant-loop-e : goal.invariant-loop-e
invariant-loop-e l =
    CanConfigureFrom l.self l.v.0 l.config l.e
    × ((after_set_edges l.self (links_from l.self l.v.0 l.config l.e) ≡ after_set_edges l.fn.self (links_for l.fn.self l.v.0 l.config)) × (length l.self.links ≡ length l.fn.self.links))
