use Rattle.std.proofs.Common.{◌<◌, ◌∙◌, ap, arith, get_or, set, length, max}
use Rattle.std.proofs.lemmas.List.{length-set, get_or_default}
use Rattle.tez_lists.proofs.Tables.{each_more}
use Rattle.tez_schedule.specs.Table.{asked_at}
use Rattle.tez_schedule.proofs.seeing.ask.Goals as goal

pub loop-v-preserved : goal.loop-v-preserved
loop-v-preserved c =
    let now = c.loop-v.greatest in
    let v = c.loop-v.v in
    let inv = c.loop-v.invariant in
    let is = c.max.ensures ∙ ap (max (get_or now v 0)) c.to_schedule_at.ensures in
    let there : v < length now = omega (arith, inv.sized) in
    record {
      sized = length-set now v c.max.result ∙ inv.sized;
      asked = ap (set now v) is ∙ each_more (asked_at c.args.vertices.now c.args.edges.now) c.args.greatest.now now v (get_or now v 0) c.loop-v-test.true inv.asked (get_or_default now v 0 (get_or now v 0) there);
    }
