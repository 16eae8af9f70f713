use Rattle.std.proofs.Common.{◌≡◌, ◌∙◌, [], ap, find, bytes_eq}
use Rattle.std.specs.Option.{option_map_or}
use Rattle.tez_record.specs.Line.{lines}
use Rattle.tez_plan.proofs.Results.{if_ok}
use Rattle.tez_meaning.specs.Jobs.{Files}
use Rattle.tez_meaning.specs.Value.{lines_of as lines_in}
use Rattle.tez_meaning.proofs.reads.source_lines.Goals as goal

pub returns : goal.returns
returns c =
    let named = λ (fs : Files). option_map_or (λ file. lines file.1) (find (λ file. bytes_eq file.0 c.args.name.now) fs) [] in
    if_ok (λ rs. rs ≡ named c.sources.result.now) (λ rs. rs ≡ lines_in c.args.job.now c.args.name.now) c.lines_of.result (λ rs h. h ∙ ap named c.sources.ensures.value) c.lines_of.ensures
