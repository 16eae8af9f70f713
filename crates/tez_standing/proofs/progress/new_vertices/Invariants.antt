use Rattle.std.proofs.Common.{◌≡◌, map}
use Rattle.tez_lists.specs.Numbers.{numbers_from}
use Rattle.tez_plan.specs.Dag.{tasks_of}
use Rattle.tez_standing.specs.Progress.{new_vertex}
use Rattle.tez_standing.proofs.progress.new_vertices.Given as goal

abbrev pub invariant-loop-v : goal.invariant-loop-v
invariant-loop-v l = l.vertices.items ≡ map (λ v. new_vertex v (tasks_of l.p v)) (numbers_from 0 l.v)
