use Rattle.std.proofs.Common.{rules}
use Rattle.tez_tables.proofs.RouteLemmas.{one_to_one_route}
use Rattle.tez_edges.proofs.one_to_one.OneToOneEdgeManager.route.Goals as goal

pub returns : goal.returns
returns c = rw (one_to_one_route c.args.self.now.tasks c.args.source c.args._output c.requires.source c.requires.output) (search rules)
