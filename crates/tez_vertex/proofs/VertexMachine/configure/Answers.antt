use Rattle.tez_vertex.proofs.VertexLemmas.{counted_new}
use Rattle.tez_vertex.proofs.VertexMachine.configure.Goals as goal

pub invariant_of-self : goal.invariant_of-self
invariant_of-self c = counted_new c.self.inside.vertex.0 c.self.inside.epoch.0 c.self.inside.max_failed c.args.tasks c.in_ok-machines.machines.items c.in_ok-machines.ensures c.ranges.tasks.fits c.self.invariant.may_fail
