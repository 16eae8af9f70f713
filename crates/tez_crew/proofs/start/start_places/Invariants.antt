use Rattle.std.proofs.Common.{◌≡◌, ◌≤◌, ◌+◌, [], length}
use Rattle.std.specs.Prelude.{vec_capacity}
use Rattle.std.specs.Vec.Iter.{into_iter_items}
use Rattle.crossbeam_queue.specs.Passes.{view, IsPassOf}
use Rattle.tez_crew.specs.Events.{getter}
use Rattle.tez_crew.specs.PreparedPlaces.{IsPreparedFrom, IsLinedUp}
use Rattle.tez_crew.proofs.start.start_places.Given as goal

abbrev pub invariant-loop-prepared_place : goal.invariant-loop-prepared_place
invariant-loop-prepared_place g l =
    let made = length l.handles.items in let rest = l.prepared_place-iterator in
    (made + length (into_iter_items rest) ≡ length l.fn.prepared_places.items)
    × (length l.fn.prepared_places.items ≤ vec_capacity l.handles)
    × IsPreparedFrom l.mailboxes.items (into_iter_items rest) made
    × IsLinedUp l.events l.handles.items
    × IsPassOf l.events l.seen
    × (view l.seen ≡ getter [] made [])
