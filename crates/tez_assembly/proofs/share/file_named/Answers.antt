use Rattle.std.proofs.Common.{◌≡◌, ◌∙◌, [], sym, ap}
use Rattle.tez_record.specs.Line.{lines}
use Rattle.tez_plan.specs.Dag.{dag_of}
use Rattle.tez_meaning.proofs.Loops.{file_lines, no_file}
use Rattle.tez_assembly.proofs.share.file_named.Goals as goal

pub returns-in-None : goal.returns-in-None
returns-in-None c = sym (no_file (dag_of [] [] []) c.args.files.now c.args.name.now (sym c.place_named.ensures ∙ c.in-None.is))

pub returns-in-Some : goal.returns-in-Some
returns-in-Some c =
    let are = file_lines (dag_of [] [] []) c.args.files.now c.args.name.now c.in-Some.place c.index-files-place.result (sym c.place_named.ensures ∙ c.in-Some.is) c.index-files-place.is in
    ap lines (c.as_slice.ensures ∙ ap (λ f. f.1) (sym c.index-files-place.is)) ∙ sym are
