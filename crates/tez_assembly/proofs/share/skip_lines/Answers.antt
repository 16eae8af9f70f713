use Rattle.std.proofs.Common.{◌∙◌, sym}
use Rattle.tez_record.specs.Line.{lines}
use Rattle.tez_shares.proofs.CutLemmas.{left_more, left_none}
use Rattle.tez_assembly.proofs.share.skip_lines.Goals.{in-Some, in_default}
use Rattle.tez_assembly.proofs.share.skip_lines.Goals as goal

pub loop-passed-preserved : goal.loop-passed-preserved
loop-passed-preserved c =
    let all = lines c.args.rest.now.rest.now in
    let i = c.loop-passed._passed in
    elim c.match-next.branch [
      | in-Some w ↦ left_more all _ i _ (sym c.loop-passed.invariant ∙ w.in-Some.ensures.steps)
      | in_default w ↦ w.in_default.ensures.steps.1 ∙ left_none all i (sym c.loop-passed.invariant ∙ w.in_default.ensures.steps.0)
    ]
