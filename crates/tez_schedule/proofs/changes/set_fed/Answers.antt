use Rattle.std.proofs.Common.{arith}
use Rattle.std.proofs.lemmas.Grind.{common_steps}
use Rattle.std.proofs.lemmas.List.Edits.{map_over_more}
use Rattle.tez_schedule.specs.Table.{fed_with}
use Rattle.tez_schedule.proofs.changes.set_fed.Goals as goal

pub loop-x-preserved : goal.loop-x-preserved
loop-x-preserved c = grind (arith, common_steps, map_over_more (fed_with c.args.t.vertex.0 c.args.t.index c.args.has))
