use Rattle.std.specs.Prelude.{◌-◌, length, string_bytes}
use Rattle.std.proofs.Common.{ap, arith}
use Rattle.std.proofs.lemmas.List.{length-append}
use Rattle.tez_gen.specs.Generate.{text_after}
use Rattle.tez_gen.proofs.Lengths.{text_length}
use Rattle.tez_gen.proofs.Lines.{one_more}
use Rattle.tez_gen.proofs.generate.Goals as goal

pub loop-line-preserved : goal.loop-line-preserved
loop-line-preserved c =
    one_more (string_bytes c.loop-line.text) (string_bytes c.push_line.new.text) (text_after c.args.seed c.args.lines)
    c.loop-line.x c.in_ok-x.x c.args.lines c.loop-line._line c.loop-line-test.true c.in_ok-x.ensures.line c.in_ok-x.ensures.state c.loop-line.invariant

pub returns-clause-short : goal.returns-clause-short
returns-clause-short c =
    let rest = text_after c.loop-line.x (c.args.lines - c.loop-line._line) in
    omega (arith, text_length c.args.seed c.args.lines, ap length c.loop-line.invariant, length-append (string_bytes c.loop-line.text) rest, ap (λ v. length v.items) c.into_bytes.ensures.value)
