use Rattle.std.proofs.Common.{◌∙◌, ap, sym, is_none}
use Rattle.tez_core.proofs.Firsts.{none_mapped}
use Rattle.tez_core.proofs.parts.Core.are_all_recorded.Goals as goal

pub returns : goal.returns
returns c = none_mapped c.next_sink.result c.is_none.result (sym c.is_none.ensures) ∙ ap is_none c.next_sink.ensures
