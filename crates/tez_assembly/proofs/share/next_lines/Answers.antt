use Rattle.std.proofs.Common.{◌∙◌, ◌++◌, [], ◌∷◌, sym, ap}
use Rattle.tez_record.specs.Line.{lines}
use Rattle.tez_record.proofs.BlockLemmas.{first_is_record}
use Rattle.tez_shares.proofs.CutLemmas.{taken_more, left_more, taken_none, left_none}
use Rattle.tez_assembly.proofs.share.next_lines.Goals.{in-Some+in_ok-push, in_default}
use Rattle.tez_assembly.proofs.share.next_lines.Goals as goal

pub push-requires : goal.push-requires
push-requires c = first_is_record c.loop-taken.rest.rest.now _ _ c.in-Some.ensures.steps

pub loop-taken-preserved : goal.loop-taken-preserved
loop-taken-preserved c =
    let all = lines c.args.rest.now.rest.now in
    let i = c.loop-taken._taken in
    elim c.match-next.branch [
      | in-Some+in_ok-push w ↦
          let next = sym c.loop-taken.invariant.left ∙ w.in-Some.ensures.steps in
          record {
            taken = w.share-is ∙ w.in_ok-push.ensures ∙ ap (λ xs. xs ++ w.in-Some.line.now ∷ []) c.loop-taken.invariant.taken ∙ sym (taken_more all _ i _ next);
            left = left_more all _ i _ next;
          }
      | in_default w ↦
          let none = sym c.loop-taken.invariant.left ∙ w.in_default.ensures.steps.0 in
          record {
            taken = w.share-is ∙ c.loop-taken.invariant.taken ∙ sym (taken_none all i none);
            left = w.in_default.ensures.steps.1 ∙ left_none all i none;
          }
    ]
