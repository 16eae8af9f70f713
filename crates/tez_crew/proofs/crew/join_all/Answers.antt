use Rattle.std.proofs.Common.{rules, arith, ◌≡◌, ◌≤◌, ◌+◌, ◌++◌, List, ◌∙◌, ap, sym, subst, length}
use Rattle.std.proofs.lemmas.Grind.{common_steps}
use Rattle.std.specs.Vec.Iter.{into_iter_items}
use Rattle.crossbeam_queue.specs.Passes.{view}
use Rattle.tez_ids.specs.declared.AttemptId.{AttemptId}
use Rattle.tez_crew.specs.declared.book.PlaceRecord.{PlaceRecord}
use Rattle.tez_crew.specs.Books.{rows_put}
use Rattle.tez_crew.specs.Contract.{Reports}
use Rattle.tez_crew.specs.Desks.{puts_of}
use Rattle.tez_crew.specs.Events.{getter}
use Rattle.tez_crew.specs.PreparedPlaces.{IsPlacedFrom}
use Rattle.tez_crew.proofs.Joined.{own_view, puts_more, reports_more}
use Rattle.tez_crew.proofs.Opened.{placed_begin, placed_head, placed_tail}
use Rattle.tez_crew.proofs.crew.join_all.Goals as goal

pub join_container-row-requires-clause-next : goal.join_container-row-requires-clause-next
join_container-row-requires-clause-next g c =
    let inv = c.loop-place_handle.invariant in
    (own_view (view c.loop-place_handle.seen) _ _ inv.5, inv.6.0 ∙ sym (placed_head c.args.events.now c.in-Some.place_handle _ _ _ c.in-Some.ensures.steps.0 inv.2).0)

pub join_container-row-requires-clause-queue : goal.join_container-row-requires-clause-queue
join_container-row-requires-clause-queue g c =
    let inv = c.loop-place_handle.invariant in let head = placed_head c.args.events.now c.in-Some.place_handle _ _ _ c.in-Some.ensures.steps.0 inv.2 in
    (inv.4.0 ∙ sym head.1, inv.4.1)

pub loop-place_handle-init : goal.loop-place_handle-init
loop-place_handle-init g c =
    let none = c.requires.room.0 in let gives = c.into_iter-place_handle-iterator.ensures.into_iter_gives.0 in
    let zero : length c.args.rows.items ≡ 0 = ap length none in let all : length (into_iter_items c.into_iter-place_handle-iterator.result) ≡ length c.args.handles.items = ap length gives in
    let known : length (view c.args.seen.now).known ≡ 0 = ap (λ v. length v.known) c.requires.seen.1 in (
      omega arith,
      c.requires.room.1,
      subst (λ l. IsPlacedFrom c.args.events.now l (length c.args.rows.items)) (sym gives) (placed_begin c.args.events.now c.args.handles.items _ zero c.requires.handles),
      (λ i. rows_put (none i) ++ puts_of (gives i)),
      c.requires.seen.0,
      c.requires.seen.1 ∙ (λ i. getter (view c.args.seen.now).got (view c.args.seen.now).made (sym (ap (λ v. v.known) c.requires.seen.1) i)),
      (known ∙ sym zero, λ p low. absurd (omega arith)),
    )

pub loop-place_handle-preserved : goal.loop-place_handle-preserved
loop-place_handle-preserved g c =
    let inv = c.loop-place_handle.invariant in
    let steps = c.in-Some.ensures.steps.0 in
    let items = c.push_reserved.ensures.items in
    let r = c.join_container-row.ensures.known in
    let head = placed_head c.args.events.now c.in-Some.place_handle _ _ _ steps inv.2 in
    let rest = into_iter_items c.next.new.self in
    let long : length c.push_reserved.new.self.items ≡ length c.loop-place_handle.rows.items + 1 = search (rules, common_steps, items) in
    let less : length (into_iter_items c.loop-place_handle.place_handle-iterator) ≡ length rest + 1 = search (rules, common_steps, steps) in
    let count = inv.0 in (
      omega arith,
      subst (λ n. length c.args.handles.items ≤ n) (sym c.push_reserved.ensures.capacity) inv.1,
      subst (λ n. IsPlacedFrom c.args.events.now rest n) (sym long) (placed_tail c.args.events.now c.in-Some.place_handle rest _ _ steps inv.2),
      subst (λ l. rows_put l ++ puts_of rest ≡ puts_of c.args.handles.items) (sym items) (puts_more c.loop-place_handle.rows.items c.join_container-row.result c.in-Some.place_handle rest _ _ steps c.join_container-row.ensures.put inv.3),
      (c.join_container-row.ensures.queue.0 ∙ head.1, c.join_container-row.ensures.queue.1),
      r.1 ∙ (λ i. getter (ap (λ v. v.got) inv.5 i) (ap (λ v. v.made) inv.5 i) (sym (ap (λ v. v.known) r.1) i)),
      subst (λ (y : List (List AttemptId) × List PlaceRecord). Reports y.0 y.1) (λ j. (sym (ap (λ v. v.known) r.1) j, sym items j)) (reports_more _ _ _ _ inv.6 r.2),
    )
