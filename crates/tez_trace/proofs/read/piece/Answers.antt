use Rattle.std.proofs.Common.{◌≡◌, suc, ◌+◌, ap, ◌∙◌, arith}
use Rattle.tez_trace.specs.Said.{split, piece}
use Rattle.tez_trace.proofs.Cuts.{first_piece, later_piece}
use Rattle.tez_trace.proofs.read.piece.Goals as goal

pub loop-passed-preserved : goal.loop-passed-preserved
loop-passed-preserved c = λ j.
    let next : c.loop-passed._passed + suc j ≡ c.loop-passed._passed + 1 + j = omega arith in
    ap (λ bytes. piece (split c.args.separator bytes) j) c.cut.ensures.after
    ∙ later_piece c.args.separator c.loop-passed.rest.now j
    ∙ c.loop-passed.invariant (suc j)
    ∙ ap (λ n. piece (split c.args.separator c.args.text.now) n) next

pub returns : goal.returns
returns c =
    let last : c.loop-passed._passed + 0 ≡ c.args.i = omega (arith, c.loop-passed-test.false, c.loop-passed.auto._passed-end) in
    c.cut-2.ensures.before
    ∙ first_piece c.args.separator c.loop-passed.rest.now
    ∙ c.loop-passed.invariant 0
    ∙ ap (λ n. piece (split c.args.separator c.args.text.now) n) last
