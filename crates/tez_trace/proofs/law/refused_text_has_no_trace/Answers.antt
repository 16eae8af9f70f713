use Rattle.tez_trace.proofs.Refused.{refused_holds_none, refused_once}
use Rattle.tez_trace.proofs.law.refused_text_has_no_trace.Goals as goal

pub returns : goal.returns
returns c = record { none = refused_holds_none; once = refused_once }
