use Rattle.std.proofs.Common.{◌≡◌, ◌≤◌, length, ap, ◌∙◌, subst, arith}
use Rattle.tez_ports.specs.Image.{IsImage}
use Rattle.tez_ports_mem.specs.Kept.{Kept, IsKept, picked}
use Rattle.tez_ports_mem.proofs.KeptLemmas.{disk_of, kept_empty, kept_sound, picked_image, picked_no_longer}
use Rattle.tez_ports_mem.proofs.platter.Platter.cut.Goals as goal

left : (c : goal.After-self-1) → c.pick_image.new.content.items ≡ picked c.args.pick (disk_of c.self.inside.shared c.self.inside.tail.items c.self.inside.pending.items c.self.inside.content.items)
left c =
    let content = c.self.inside.content.items in
    c.pick_image.ensures.items ∙ ap (λ t. picked c.args.pick (disk_of c.self.inside.shared t c.deref-2.result.now content)) c.deref.ensures.value
    ∙ ap (λ ps. picked c.args.pick (disk_of c.self.inside.shared c.self.inside.tail.items ps content)) c.deref-2.ensures.value

shorter : (c : goal.After-self-1) → length c.pick_image.new.content.items ≤ length c.self.inside.content.items
shorter c =
    let same = ap length (left c) in
    let k = c.self.invariant.0 in
    let l = picked_no_longer c.args.pick (disk_of c.self.inside.shared c.self.inside.tail.items c.self.inside.pending.items c.self.inside.content.items) k.image k.inside in
    omega arith

keeps : (c : goal.After-self-1) → IsKept c.len-self-inside.result c.clear-2.new.self.items c.clear.new.self.items c.pick_image.new.content.items
keeps c = kept_empty c.len-self-inside.result c.clear-2.new.self.items c.pick_image.new.content.items c.clear.new.self.items c.clear-2.ensures.items c.clear.ensures.items (omega arith)
    (let short = c.self.invariant.0.short in let l = shorter c in omega arith)

pub invariant_of-self : goal.invariant_of-self
invariant_of-self c = (
  keeps c,
  record {
    content_fits = λ some. let before = c.self.invariant.1.content_fits some in let l = shorter c in omega arith;
    tail_fits = λ some. let before = c.self.invariant.1.tail_fits some in let l = shorter c in omega arith;
    pending_fits = λ some. let before = c.self.invariant.1.pending_fits some in omega arith;
  },
)

pub returns-clause-sound : goal.returns-clause-sound
returns-clause-sound c = kept_sound c.len-self-inside.result c.clear-2.new.self.items c.clear.new.self.items c.pick_image.new.content.items (keeps c)

pub returns-clause-image : goal.returns-clause-image
returns-clause-image c =
    let k = c.self.invariant.0 in
    subst (λ (k : Kept). IsImage k.disk.stable k.disk.pending (picked c.args.pick k.disk)) c.self.view_is
    (picked_image c.args.pick (disk_of c.self.inside.shared c.self.inside.tail.items c.self.inside.pending.items c.self.inside.content.items) k.image k.inside)
