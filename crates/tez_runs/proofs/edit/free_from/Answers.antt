use Rattle.std.proofs.Common.{arith}
use Rattle.tez_runs.proofs.RunLemmas.{none_held, free_at_end, held_from, free_past_end}
use Rattle.tez_runs.proofs.edit.free_from.Goals as goal

pub returns-then-at-eq0-clause-free : goal.returns-then-at-eq0-clause-free
returns-then-at-eq0-clause-free c = none_held c.args.i c.requires.0 c.place-at.result c.args.runs.now c.requires.1 c.place-at.ensures.after c.if-at-eq0.true

pub returns-then-end-i-clause-free : goal.returns-then-end-i-clause-free
returns-then-end-i-clause-free c =
    let apart = c.if-at-eq0.false in
    free_at_end c.requires.0 c.place-at.result c.args.runs.now c.requires.1 (omega arith) c.place-at.ensures.inside

pub returns-then-end-i-clause-least : goal.returns-then-end-i-clause-least
returns-then-end-i-clause-least c j low high =
    let apart = c.if-at-eq0.false in
    held_from c.args.i j c.place-at.result c.args.runs.now c.place-at.ensures.before (omega arith) c.place-at.ensures.inside low high

pub returns-else-end-i-clause-free : goal.returns-else-end-i-clause-free
returns-else-end-i-clause-free c =
    let apart = c.if-at-eq0.false in
    free_past_end c.args.i c.requires.0 c.place-at.result c.args.runs.now c.requires.1 c.place-at.ensures.before c.place-at.ensures.after (omega arith) c.place-at.ensures.inside c.if-end-i.false
