use Rattle.tez_sinks.proofs.Bads.{attempt_blames}
use Rattle.tez_sinks.proofs.result.attempts_blame_the_job.Goals as goal

pub returns : goal.returns
returns c = λ job k past a w runs met. attempt_blames job k past w.ranges w.valid w.made w.allowed w.now w.kept a runs met
