use Rattle.std.proofs.Common.{rules}
use Rattle.tez_tables.proofs.RouteLemmas.{broadcast_route, consumers_more}
use Rattle.tez_edges.proofs.broadcast.BroadcastEdgeManager.route.Goals as goal

pub loop-consumer-preserved : goal.loop-consumer-preserved
loop-consumer-preserved c = search (rules, consumers_more)

pub returns : goal.returns
returns c = rw (broadcast_route c.args.self.now.sources c.args.self.now.consumers c.args.source c.args._output c.requires.source c.requires.output) (search rules)
