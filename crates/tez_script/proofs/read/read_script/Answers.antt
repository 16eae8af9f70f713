use Rattle.std.proofs.Common.{◌≡◌, ◌++◌, ◌∷◌, [], ap, sym, subst, ◌∙◌, append_assoc, length, refl, Some, arith}
use Rattle.std.proofs.lemmas.Bool.{and_from}
use Rattle.std.proofs.lemmas.List.Folds.{list_all-append}
use Rattle.std.proofs.lemmas.List.{length-map}
use Rattle.std.specs.List.{list_all}
use Rattle.tez_record.specs.Line.{lines}
use Rattle.tez_script.specs.Grammar.{has_times, IsScript, line_of}
use Rattle.tez_script.specs.Reading.{next_of}
use Rattle.tez_script.proofs.Lines.{accepted, refused}
use Rattle.tez_script.proofs.read.read_script.Goals as goal

pub loop-line-preserved : goal.loop-line-preserved
loop-line-preserved c =
    let seen = c.loop-line.invariant.0.0 in
    let l = c.in-Some.line.now in
    let x = c.in-Some-next_line.x in
    let g = c.args.p.now in
    let k = c.args.c.now in
    let was = c.loop-line.found.items in
    let more = lines c.next.new.self.rest.now in
    let pushed = c.in_ok-push-in-Some-next_line.ensures.items in
    let said = ap (λ fs. next_of g k fs l) (sym c.as_slice.ensures.value) ∙ sym c.in-Some-next_line.ensures.value in (
      (
        seen ++ l ∷ [],
        append_assoc seen (l ∷ []) more ∙ ap (λ xs. seen ++ xs) (sym c.in-Some.ensures.steps) ∙ c.loop-line.invariant.0.1,
        subst (λ xs. IsScript g k (seen ++ l ∷ []) xs) (sym pushed) (accepted g k seen l was x c.loop-line.invariant.0.2 said),
      ),
      ap (list_all has_times) pushed ∙ list_all-append has_times was (x ∷ []) ∙ and_from _ _ c.loop-line.invariant.1 (and_from _ _ c.in-Some-next_line.ensures.times refl),
    )

pub returns-in-None-next_line-clause-refused : goal.returns-in-None-next_line-clause-refused
returns-in-None-next_line-clause-refused c =
    let seen = c.loop-line.invariant.0.0 in
    let l = c.in-Some.line.now in
    let g = c.args.p.now in
    let k = c.args.c.now in
    let was = c.loop-line.found.items in
    let script = c.loop-line.invariant.0.2 in
    let said = ap (λ fs. next_of g k fs l) (sym c.as_slice.ensures.value) ∙ sym c.in-None-next_line.ensures.value in
    let size : length seen ≡ length was = sym (length-map seen (line_of g k)) ∙ ap length script.lines ∙ length-map was Some in
    let held : length c.as_slice.result.now ≡ length was = ap length c.as_slice.ensures.value in
    record {
      before = seen;
      line = l;
      after = lines c.next.new.self.rest.now;
      all = sym c.loop-line.invariant.0.1 ∙ ap (λ xs. seen ++ xs) c.in-Some.ensures.steps;
      place = omega (arith, size, held, c.as_slice.ensures.len, c.len.ensures);
      lines = was;
      script = script;
      no_script = λ ys. refused g k seen l was ys script said;
    }
