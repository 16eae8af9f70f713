use Rattle.tez_sinks.proofs.Bads.{good_defined}
use Rattle.tez_sinks.proofs.result.runs_are_good.Goals as goal

pub returns : goal.returns
returns c = λ job k past w none good done. good_defined job k past w.ranges w.valid w.made w.allowed w.now w.kept none good done
