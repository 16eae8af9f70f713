use Rattle.std.proofs.Common.{ap, ◌∙◌, ◌++◌, append_assoc}
use Rattle.std.specs.Int.{w64, to_le_bytes}
use Rattle.tez_events.proofs.codec.push_pair.Goals as goal

pub returns-clause-bytes : goal.returns-clause-bytes
returns-clause-bytes c =
    c.in_ok-extend_from_slice-2.ensures.items
    ∙ (λ i. c.in_ok-extend_from_slice.ensures.items i ++ c.to_le_bytes-2.ensures i)
    ∙ ap (λ w. (c.args.bytes.now.items ++ w) ++ to_le_bytes w64 c.args.pair.1) c.to_le_bytes.ensures
    ∙ append_assoc c.args.bytes.now.items (to_le_bytes w64 c.args.pair.0) (to_le_bytes w64 c.args.pair.1)
