use Rattle.std.proofs.Common.{◌≡◌, map}
use Rattle.tez_lists.specs.Numbers.{numbers_from}
use Rattle.tez_plan.specs.Dag.{vertex}
use Rattle.tez_vertex.specs.Table.{new_vertex}
use Rattle.tez_core.proofs.fresh.new_vertices.Given as goal

abbrev pub invariant-loop-v : goal.invariant-loop-v
invariant-loop-v l = l.vertices.items ≡ map (λ v. new_vertex (vertex v) l.epoch.0 l.c.max_failed) (numbers_from 0 l.v)
