use Rattle.tez_trace.proofs.Each.{read_or_refused}
use Rattle.tez_trace.proofs.law.each_text_is_read_or_refused.Goals as goal

pub returns : goal.returns
returns c = read_or_refused
