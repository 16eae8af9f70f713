use Rattle.std.proofs.Common.{sym, ◌∙◌, ◌+◌}
use Rattle.std.proofs.lemmas.List.{take_rest}
use Rattle.tez_trace.proofs.Cuts.{without_none, before_all, after_all, before_found, after_found}
use Rattle.tez_trace.proofs.read.cut.Goals as goal

pub returns-in-None-clause-before : goal.returns-in-None-clause-before
returns-in-None-clause-before c = sym (before_all c.args.separator c.args.text.now (without_none c.args.separator c.args.text.now c.in-None.ensures))

pub returns-in-None-clause-after : goal.returns-in-None-clause-after
returns-in-None-clause-after c = sym (after_all c.args.separator c.args.text.now (without_none c.args.separator c.args.text.now c.in-None.ensures))

pub returns-in-Some-clause-before : goal.returns-in-Some-clause-before
returns-in-Some-clause-before c = before_found c.args.separator c.args.text.now c.in-Some.at c.in-Some.ensures.0.high c.in-Some.ensures.0.before c.in-Some.ensures.1

pub returns-in-Some-clause-after : goal.returns-in-Some-clause-after
returns-in-Some-clause-after c =
    take_rest c.args.text.now (c.in-Some.at + 1)
    ∙ after_found c.args.separator c.args.text.now c.in-Some.at c.in-Some.ensures.0.high c.in-Some.ensures.0.before c.in-Some.ensures.1
