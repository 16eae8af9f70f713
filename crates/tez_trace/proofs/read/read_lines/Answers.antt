use Rattle.std.proofs.Common.{sym, ap, ◌∙◌, take}
use Rattle.std.specs.Str.{bytes_eq}
use Rattle.tez_trace.proofs.Lines.{none_found, ends, no_more, stuck_at, refused_at}
use Rattle.tez_trace.proofs.read.read_lines.Goals as goal

pub returns-then-eq-clause-text : goal.returns-then-eq-clause-text
returns-then-eq-clause-text c =
    ends c.args.bytes.now c.loop-end.rest.now c.loop-end.trace.entries c.in-Some.end c.loop-end.invariant.fit c.loop-end.invariant.text
    c.in-Some.ensures.0.high c.in-Some.ensures.1 (ap (bytes_eq (take c.in-Some.end c.loop-end.rest.now)) (sym c.as_slice.ensures) ∙ sym c.eq.ensures ∙ c.if-eq.true)

pub returns-in-Ok-None-clause-refused : goal.returns-in-Ok-None-clause-refused
returns-in-Ok-None-clause-refused c = λ n is.
    refused_at c.args.bytes.now c.loop-end.rest.now c.loop-end.trace.entries c.refused.result c.loop-end.invariant.fit c.loop-end.invariant.text
    (stuck_at c.loop-end.rest.now c.in-Some.end c.in-Some.ensures.0.high c.in-Some.ensures.0.before c.in-Some.ensures.1 (ap (bytes_eq (take c.in-Some.end c.loop-end.rest.now)) (sym c.as_slice.ensures) ∙ sym c.eq.ensures ∙ c.if-eq.false) (none_found (take c.in-Some.end c.loop-end.rest.now) c.in-Ok-None.field-0 c.in-Ok-None.ensures c.in-Ok-None.field-0-is))
    c.refused.ensures n is

pub returns-clause-refused : goal.returns-clause-refused
returns-clause-refused c = λ n is.
    refused_at c.args.bytes.now c.loop-end.rest.now c.loop-end.trace.entries c.refused-2.result c.loop-end.invariant.fit c.loop-end.invariant.text
    (no_more c.loop-end.rest.now c.in_default.ensures) c.refused-2.ensures n is
