use Rattle.std.proofs.Common.{◌≡◌, ◌∙◌, ◌++◌, ℕ, List, length, ap, ap₂, append_assoc}
use Rattle.tez_record.specs.Line.{lines}
use Rattle.tez_am.specs.Mean.{text_part}
use Rattle.tez_am.specs.Meaning.{sink_line}
use Rattle.tez_am.proofs.mean.push_sink.Goals as goal

pub returns : goal.returns
unfolding text_part
returns c =
    let old = c.args.text.now.items in
    let line : c.as_bytes.result.now ≡ sink_line c.args.sink.now.0 (length (lines c.args.sink.now.1)) (length c.args.sink.now.1) =
    c.as_bytes.ensures.value ∙ c.in_ok-sink_line.ensures ∙ ap₂ (λ (n : List ℕ) (k : ℕ). sink_line n k (length c.as_slice-bytes.result.now)) c.as_str.ensures (c.count_lines-records.ensures ∙ ap (λ b. length (lines b)) c.as_slice-bytes.ensures)
    ∙ ap (λ b. sink_line c.args.sink.now.0 (length (lines c.args.sink.now.1)) (length b)) c.as_slice-bytes.ensures in
    c.in_ok-extend_from_slice-2.ensures.items
    ∙ ap₂ (λ a b. a ++ b) (c.in_ok-extend_from_slice.ensures.items ∙ ap (λ l. old ++ l) line) c.as_slice-bytes.ensures
    ∙ append_assoc old _ _
