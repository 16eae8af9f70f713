use Rattle.std.proofs.Common.{◌≡◌, ◌<◌, ◌++◌, [], ◌∷◌, length, drop, subst, sym, arith, length-drop}
use Rattle.std.proofs.lemmas.List.{take_rest}
use Rattle.tez_events.specs.Body.{FitsRecord}
use Rattle.tez_journal.specs.Text.{entry}
use Rattle.tez_journal.specs.Reading.{ReadsEntry, IsPart}
use Rattle.tez_journal.proofs.TextLemmas.{part_next, part_broken, part_end, part_gate}
use Rattle.tez_journal.proofs.text.read_gated.Goals as goal

pub loop-alloc-preserved : goal.loop-alloc-preserved
loop-alloc-preserved c =
    let rest = c.loop-alloc.rest.now in
    let e = c.in-Some.entry in
    let read : FitsRecord e.record × (e.len < length rest) × (rest ≡ entry e.record ++ drop e.len rest) = subst (ReadsEntry rest) c.in-Some.is c.in_ok-entry.ensures in
    let inside : e.len < length rest = read.1 in
    let some : 0 < length (drop e.len rest) = omega (arith, length-drop e.len rest) in
    let part : IsPart c.args.bytes.now (drop e.len rest) (c.loop-alloc.records.items ++ e.record ∷ []) = part_next c.args.bytes.now rest c.loop-alloc.records.items e.len e.record c.loop-alloc.invariant read.0 some read.2 in
    subst (λ w. IsPart c.args.bytes.now w c.push.new.self.items) (sym (take_rest rest e.len))
    (subst (λ rs. IsPart c.args.bytes.now (drop e.len rest) rs) (sym c.in_ok-push-in-Some.ensures.items) part)

pub returns-in-None : goal.returns-in-None
returns-in-None c =
    part_broken c.args.bytes.now c.loop-alloc.rest.now c.loop-alloc.records.items c.loop-alloc.invariant (c.is_open.ensures.open c.loop-alloc-test.true) (subst (ReadsEntry c.loop-alloc.rest.now) c.in-None.is c.in_ok-entry.ensures)

pub returns : goal.returns
returns c = (
  part_end c.args.bytes.now c.loop-alloc.rest.now c.loop-alloc.records.items c.loop-alloc.invariant (c.is_open.ensures.closed c.loop-alloc-test.false),
  part_gate c.args.bytes.now c.loop-alloc.rest.now c.loop-alloc.records.items c.loop-alloc.invariant,
)
