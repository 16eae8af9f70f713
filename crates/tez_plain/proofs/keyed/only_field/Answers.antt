use Rattle.std.proofs.Common.{◌∙◌}
use Rattle.tez_plain.proofs.KeyLemmas.{field_is_key}
use Rattle.tez_plain.proofs.keyed.only_field.Goals as goal

pub returns : goal.returns
returns c = c.field.ensures ∙ field_is_key c.args.cols.now c.args.r.now _ c.requires
