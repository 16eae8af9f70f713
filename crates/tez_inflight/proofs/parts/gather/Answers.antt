use Rattle.std.proofs.Common.{is_ok, sym}
use Rattle.tez_inflight.proofs.PartLemmas.{none_over, part_gathered}
use Rattle.tez_inflight.proofs.parts.gather.Goals as goal

pub returns-in_ok-records-in-Some : goal.returns-in_ok-records-in-Some
returns-in_ok-records-in-Some c = part_gathered (is_ok c.append.result) c.args.edge c.args.piece.now _ _ c.args.parts.now c.in-Some.i c.index-parts-i.result c.in-Some.ensures c.requires c.in_ok-records-in-Some.ensures c.append.ensures

pub returns-in-None : goal.returns-in-None
returns-in-None c = sym (none_over c.args.edge c.args.piece.now c.args.parts.now c.in-None.ensures)
