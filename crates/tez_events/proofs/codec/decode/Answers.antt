use Rattle.std.proofs.Common.{arith}
use Rattle.std.proofs.lemmas.Grind.{common_steps}
use Rattle.std.proofs.lemmas.Result.{IfOk-weaker}
use Rattle.tez_events.specs.Body.{Reads}
use Rattle.tez_events.proofs.Bodies.{reads_same}
use Rattle.tez_events.proofs.codec.decode.Goals as goal

pub returns-in-6-clause-reads : goal.returns-in-6-clause-reads
returns-in-6-clause-reads c = grind (arith, common_steps)

pub returns-in-6-clause-inverse : goal.returns-in-6-clause-inverse
returns-in-6-clause-inverse c =
    λ r fits is. IfOk-weaker c.commit_started.result (Reads c.args.bytes.now) _ (λ found reads. reads_same c.args.bytes.now found reads r fits is) (returns-in-6-clause-reads c)
