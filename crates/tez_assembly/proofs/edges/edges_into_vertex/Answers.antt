use Rattle.tez_meaning.proofs.JoinLemmas.{few_edges}
use Rattle.tez_assembly.proofs.edges.edges_into_vertex.Goals as goal

pub edges_into-requires : goal.edges_into-requires
edges_into-requires c = few_edges c.args.plan.now c.vertices-valid.ensures.valid
