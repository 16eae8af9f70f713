use Rattle.std.proofs.Common.{◌≡◌, ◌∙◌, [], ap, find, bytes_eq, List, ℕ}
use Rattle.std.specs.Option.{option_map_or}
use Rattle.tez_record.specs.Line.{lines}
use Rattle.tez_plan.proofs.Results.{if_ok}
use Rattle.tez_meaning.specs.Jobs.{Files}
use Rattle.tez_meaning.specs.Value.{lines_of}
use Rattle.tez_shares.specs.Shares.{share_of_lines}
use Rattle.tez_assembly.proofs.share.share_of_source.Goals as goal

pub returns : goal.returns
returns c =
    let named = λ (fs : Files). option_map_or (λ file. lines file.1) (find (λ file. bytes_eq file.0 c.args.name.now) fs) [] in
    let share = λ (rs : List (List ℕ)). share_of_lines rs c.args.tasks c.args.t in
    if_ok (λ rs. rs ≡ share (lines c.file_named.result.now)) (λ rs. rs ≡ share (lines_of c.args.job.now c.args.name.now)) c.share_of_text.result (λ rs h. h ∙ ap share (c.file_named.ensures ∙ ap named c.sources.ensures.value)) c.share_of_text.ensures
