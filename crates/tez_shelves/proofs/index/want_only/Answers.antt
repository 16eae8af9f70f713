use Rattle.std.proofs.Common.{◌≤◌, ◌∙◌, ap, arith, length, take, take_all, List}
use Rattle.std.specs.Option.{option_map}
use Rattle.std.specs.List.{list_any}
use Rattle.slab.specs.Slab.{get}
use Rattle.tez_ids.specs.declared.AttemptId.{AttemptId}
use Rattle.tez_ids.specs.Same.{same_attempt}
use Rattle.tez_shelves.specs.declared.slots.Shelved.{Shelved}
use Rattle.tez_shelves.specs.Slots.{marked}
use Rattle.tez_shelves.proofs.WantLemmas.{marked_held, one_more, too}
use Rattle.tez_shelves.proofs.index.want_only.Goals as goal

pub want_too-requires : goal.want_too-requires
want_too-requires c =
    let seen = take c.loop-a.a-index c.args.attempts.now in
    marked_held c.args.slots.now c.loop-a.slots (λ s. list_any (same_attempt s.attempt) seen) c.loop-a.invariant
    c.args.places.now.entries c.requires

pub loop-a-preserved : goal.loop-a-preserved
loop-a-preserved c = λ k.
    c.want_too.ensures k
    ∙ ap (option_map (too _)) (c.loop-a.invariant k)
    ∙ one_more c.args.attempts.now c.loop-a.a-index _ (omega arith) (get c.args.slots.now k)

pub returns : goal.returns
returns c = λ k.
    let past : length c.args.attempts.now ≤ c.loop-a.a-index = omega arith in
    let by = λ (seen : List AttemptId) (s : Shelved). marked (list_any (same_attempt s.attempt) seen) s in
    c.loop-a.invariant k
    ∙ ap (λ seen. option_map (by seen) (get c.args.slots.now k)) (take_all c.loop-a.a-index c.args.attempts.now past)
