use Rattle.std.proofs.Common.{rules}
use Rattle.tez_tables.proofs.RouteLemmas.{scatter_gather_route}
use Rattle.tez_edges.proofs.scatter_gather.ScatterGatherEdgeManager.route.Goals as goal

pub returns : goal.returns
returns c = rw (scatter_gather_route c.args.self.now.sources c.args.self.now.parts c.args.self.now.base c.args.source c.args.output c.args.self.now.based c.requires.source c.requires.output) (search rules)
