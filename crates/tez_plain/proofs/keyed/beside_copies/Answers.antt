use Rattle.std.proofs.Common.{◌∙◌}
use Rattle.tez_record.specs.Line.{lines}
use Rattle.tez_record.proofs.BlockLemmas.{first_is_record}
use Rattle.tez_plain.proofs.KeyLemmas.{entered, copy_is}
use Rattle.tez_plain.proofs.keyed.beside_copies.Goals as goal

pub new-requires : goal.new-requires
new-requires c = first_is_record c.loop-line.keys.rest.now _ _ c.in-Some-next.ensures.steps

pub loop-line-preserved-in-Continue-1 : goal.loop-line-preserved-in-Continue-1
loop-line-preserved-in-Continue-1 c =
    let left = lines c.loop-line.line-iterator.rest.now in
    let more = lines c.next.new.self.rest.now in
    let own = copy_is c.args.cols.now c.in-Some-next.own.now c.in-Some.line.now (lines c.loop-line.keys.rest.now) (lines c.next-in-loop-line.new.self.rest.now) left more
    c.loop-line.invariant.copies c.in-Some.ensures.steps c.in-Some-next.ensures.steps in
    record {
      entered = entered c.args.cols.now c.args.records.now left more c.loop-line.entries.items c.push.new.self.items (c.new.result, c.in-Some.line)
          c.in-Some.ensures.steps (c.new.ensures ∙ own.0) (first_is_record c.loop-line.line-iterator.rest.now _ _ c.in-Some.ensures.steps) c.in_ok-push.ensures.items c.loop-line.invariant.entered;
      copies = own.1;
    }
