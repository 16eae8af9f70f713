use Rattle.std.proofs.Common.{◌≡◌, ◌≤◌, ◌<◌, ◌+◌, ◌-◌, length, take, drop, ◌++◌, ap, ◌∙◌, arith}
use Rattle.tez_ports.specs.Image.{Disk, writes}
use Rattle.tez_ports_mem.specs.Kept.{Kept, IsKept}
use Rattle.tez_ports_mem.proofs.KeptLemmas.{IsWritten, kept_write, kept_sound, write_seen}
use Rattle.tez_ports_mem.proofs.platter.Platter.write.Goals as goal

changed : (c : goal.After-self-2-1) → IsWritten c.args.start c.self.inside.shared c.min-self-inside.result c.args.bytes.now c.self.inside.tail.items c.save_in_room.new.tail.items c.self.inside.content.items
    c.overwrite_in_room.new.content.items c.self.inside.pending.items c.push_front_in_room.new.items.items
changed c = record {
  lower_is = c.min-self-inside.ensures;
  saved_is = c.save_in_room.ensures.items ∙ ap (λ xs. take (c.self.inside.shared - c.args.start) (drop c.args.start xs) ++ c.self.inside.tail.items) c.deref.ensures.value;
  now_is = c.overwrite_in_room.ensures.items;
  ranges_is = c.push_front_in_room.ensures.items;
}

starts : (c : goal.After-self-2-1) → c.args.start ≤ length c.self.inside.content.items
starts c = let same : length c.self.inside.content.items ≡ length c.args.self.now.disk.read = ap (λ k. length k.disk.read) c.self.view_is in let l = c.requires.start in omega arith

keeps : (c : goal.After-self-2-1) → IsKept c.min-self-inside.result c.save_in_room.new.tail.items c.push_front_in_room.new.items.items c.overwrite_in_room.new.content.items
keeps c = kept_write c.args.start c.self.inside.shared c.min-self-inside.result c.args.bytes.now c.self.inside.tail.items c.save_in_room.new.tail.items c.self.inside.content.items c.overwrite_in_room.new.content.items
    c.self.inside.pending.items c.push_front_in_room.new.items.items (changed c) c.self.invariant.0 (starts c) c.requires.limit

positive : (c : goal.After-self-2-1) → 0 < c.self.inside.spare
positive c = let same : c.self.inside.spare ≡ c.args.self.now.spare = ap (λ k. k.spare) c.self.view_is in let l = c.requires.room in omega arith

pub invariant_of-self : goal.invariant_of-self
invariant_of-self c = (
  keeps c,
  record {
    content_fits = λ some. let before = c.self.invariant.1.content_fits (positive c) in let l = starts c in omega arith;
    tail_fits = λ some. let before = c.self.invariant.1.tail_fits (positive c) in let l = starts c in omega arith;
    pending_fits = λ some. let before = c.self.invariant.1.pending_fits (positive c) in omega arith;
  },
)

pub returns-clause-sound : goal.returns-clause-sound
returns-clause-sound c = kept_sound c.min-self-inside.result c.save_in_room.new.tail.items c.push_front_in_room.new.items.items c.overwrite_in_room.new.content.items (keeps c)

pub returns-clause-value : goal.returns-clause-value
returns-clause-value c =
    let seen = write_seen c.args.start c.self.inside.shared c.min-self-inside.result c.args.bytes.now c.self.inside.tail.items c.save_in_room.new.tail.items c.self.inside.content.items c.overwrite_in_room.new.content.items
    c.self.inside.pending.items c.push_front_in_room.new.items.items (changed c) (starts c) in
    ap (λ (d : Disk). record { disk = d; spare = c.self.inside.spare - (length c.args.bytes.now + 1) }) seen
    ∙ ap (λ (k : Kept). record { disk = writes c.args.start c.args.bytes.now k.disk; spare = k.spare - (length c.args.bytes.now + 1) }) c.self.view_is
