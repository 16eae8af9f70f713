use Rattle.std.proofs.Common.{◌≡◌, ℕ, Some, subst}
use Rattle.tez_pool.specs.State.{PoolState}
use Rattle.tez_pool.specs.Table.{place_held}
use Rattle.tez_pool.specs.Index.{held_at}
use Rattle.tez_pool.proofs.IndexLemmas.{held_there}
use Rattle.tez_pool.proofs.pool.Pool.find.Goals as goal

pub returns-clause-once : goal.returns-clause-once
returns-clause-once c =
    subst (λ (v : PoolState). (p : ℕ) → held_at v.places p ≡ Some c.args.attempt → place_held v.places c.args.attempt ≡ Some p) c.self.view_is
    (λ p h. held_there c.self.inside.places c.self.inside.index p c.args.attempt c.self.invariant.finder h)
