use Rattle.std.proofs.Common.{◌∙◌, ap, sym, is_none}
use Rattle.tez_history.specs.Shape.{sinks}
use Rattle.tez_master_model.specs.Read.{flag}
use Rattle.tez_core.proofs.Firsts.{none_mapped, all_by}
use Rattle.tez_core.proofs.sinks.are_all_done.Goals as goal

pub returns : goal.returns
returns c =
    none_mapped c.first_open.result c.is_none.result (sym c.is_none.ensures) ∙ ap is_none c.first_open.ensures ∙ sym (all_by (flag c.args.done.now) (sinks c.args.p.now))
