use Rattle.std.proofs.Common.{arith}
use Rattle.std.proofs.lemmas.Grind.{common_steps}
use Rattle.tez_standing.specs.Progress.{new_row}
use Rattle.tez_standing.proofs.TableLemmas.{one_more}
use Rattle.tez_standing.proofs.rows.new_rows.Goals as goal

pub loop-index-preserved : goal.loop-index-preserved
loop-index-preserved c = grind (arith, common_steps, one_more (new_row c.args.vertex.0) c.loop-index.index)
