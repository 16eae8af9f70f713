use Rattle.std.proofs.Common.{◌++◌, sym, ap, ◌∙◌}
use Rattle.tez_trace.specs.Text.{entry_line}
use Rattle.tez_trace.proofs.Lines.{nothing_said, otherwise_written}
use Rattle.tez_trace.proofs.read.entry_at.Goals as goal

pub returns-in_default : goal.returns-in_default
returns-in_default c = nothing_said c.args.line.now c.said.result c.said.ensures c.in_default.is

pub returns-else-eq : goal.returns-else-eq
returns-else-eq c =
    let wrote = c.as_bytes.ensures.value ∙ c.in_ok-push_entry.ensures.line ∙ ap (λ b. b ++ entry_line c.in-Some.entry) c.clear.ensures.bytes in
    otherwise_written c.args.line.now c.as_bytes.result.now c.said.result c.in-Some.entry c.said.ensures c.in-Some.is wrote (sym c.eq.ensures ∙ c.if-eq.false)
