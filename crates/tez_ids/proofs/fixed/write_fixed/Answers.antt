use Rattle.std.proofs.Common.{rules, ◌∙◌}
use Rattle.tez_ids.proofs.FixedForm.{written_fixed}
use Rattle.tez_ids.proofs.fixed.write_fixed.Goals as goal

pub returns : goal.returns
returns c =
    written_fixed c.args.into.now _ _ _ _ c.args.a (search rules)
    (c.copy_from_slice.ensures.after ∙ c.to_le_bytes.ensures) (c.copy_from_slice-2.ensures.after ∙ c.to_le_bytes-2.ensures)
    (c.copy_from_slice-3.ensures.after ∙ c.to_le_bytes-3.ensures) (c.copy_from_slice-4.ensures.after ∙ c.to_le_bytes-4.ensures)
