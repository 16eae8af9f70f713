use Rattle.std.proofs.Common.{arith}
use Rattle.tez_pool.proofs.PoolLemmas.{kept_cleared}
use Rattle.tez_pool.proofs.pool.Pool.clear.Goals as goal

pub invariant_of-self : goal.invariant_of-self
invariant_of-self c =
    kept_cleared c.self.inside.reuse c.self.inside.next c.self.inside.places c.clear_places-self-inside.new.places c.self.inside.lives.items c.self.inside.per_node c.self.inside.index c.clear.new.self c.self.invariant
    c.clear_places-self-inside.ensures.places (omega (arith, c.clear.ensures.capacity, c.clear.ensures.len))
