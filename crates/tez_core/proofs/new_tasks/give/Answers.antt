use Rattle.std.proofs.Common.{◌∙◌, ap}
use Rattle.tez_vertex.specs.Table.{after_configure}
use Rattle.tez_core.proofs.Given.{counted, same_tasks}
use Rattle.tez_core.proofs.new_tasks.give.Goals as goal

pub configure_with-requires : goal.configure_with-requires
configure_with-requires c = same_tasks c.args.x.now c.args.count c.args.tasks c.requires

pub returns : goal.returns
returns c = c.configure_with.ensures ∙ ap (after_configure c.args.x.now) (counted c.args.x.now c.args.count c.args.tasks c.requires)
