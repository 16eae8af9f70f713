use Rattle.std.proofs.Common.{ap, ◌∙◌, replicate}
use Rattle.tez_schedule.specs.Managers.{rule_of}
use Rattle.tez_schedule.proofs.VertexLemmas.{new_kept, flipped}
use Rattle.tez_schedule.proofs.vertex.VertexSchedule.new.Goals as goal

pub invariant_of-result : goal.invariant_of-result
invariant_of-result c =
    new_kept (rule_of c.args.manager) c.args.feeder c.args.inputs.items c.args.planned c.in_ok-new.field-0 c.in_ok-new-2.field-0 c.in_ok-new-3.field-0 c.in_ok-new-4.field-0
    c.in_ok-new.ensures (c.in_ok-new-2.ensures ∙ ap (replicate c.args.planned) (flipped _ _ c.is_none.ensures)) c.in_ok-new-3.ensures c.in_ok-new-4.ensures c.requires.some c.requires.few c.requires.few_inputs c.requires.input
