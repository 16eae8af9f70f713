use Rattle.std.proofs.Common.{◌∙◌, ap, sym, set}
use Rattle.std.proofs.lemmas.List.{length-set}
use Rattle.tez_lists.proofs.Tables.{each_more}
use Rattle.tez_schedule.specs.Table.{made_with}
use Rattle.tez_schedule.proofs.changes.set_made.Goals as goal

pub loop-e-preserved : goal.loop-e-preserved
loop-e-preserved c =
    let now = c.loop-e.edges in
    let e = c.loop-e.e in
    let change = made_with c.args.t.vertex.0 c.args.t.index c.args.made.now in
    let inv = c.loop-e.invariant in
    let stored = ap (set now e) (c.set_edge.ensures ∙ ap (change e) (sym c.index-edges-e.is)) in
    record {
      sized = length-set now e c.set_edge.new.edge ∙ inv.sized;
      made = stored ∙ each_more change c.args.edges.now now e c.index-edges-e.result c.loop-e-test.true inv.made c.index-edges-e.is;
    }
