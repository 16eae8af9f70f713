use Rattle.std.proofs.Common.{rules, arith, ◌≡◌, ◌≤◌, ◌<◌, ◌+◌, [], ◌∙◌, ap, sym, refl, subst, length}
use Rattle.std.proofs.lemmas.Grind.{common_steps}
use Rattle.std.specs.Vec.Iter.{into_iter_items}
use Rattle.std.specs.Prelude.{slice_index_or}
use Rattle.tez_crew.specs.declared.container.Mailbox.{Mailbox}
use Rattle.tez_crew.specs.Events.{getter}
use Rattle.tez_crew.specs.PreparedPlaces.{IsPreparedFrom, IsLinedUp, IsFreshAt}
use Rattle.tez_crew.proofs.Opened.{open_begin, open_head, open_tail, placed_more, nothing_more}
use Rattle.tez_crew.proofs.start.start_places.Goals as goal

pub loop-prepared_place-init : goal.loop-prepared_place-init
loop-prepared_place-init g c =
    let none = c.requires.room.0 in let gives = c.into_iter-prepared_place-iterator.ensures.into_iter_gives.0 in
    let zero : length c.args.handles.items ≡ 0 = ap length none in let all : length (into_iter_items c.into_iter-prepared_place-iterator.result) ≡ length c.args.prepared_places.items = ap length gives in (
      omega arith,
      c.requires.room.1,
      subst (λ l. IsPreparedFrom c.args.mailboxes.now.items l (length c.args.handles.items)) (sym gives) (open_begin c.args.mailboxes.now.items c.args.prepared_places.items _ zero c.requires.«open».0),
      subst (λ l. IsLinedUp c.args.events.now l) (sym none) ((λ i d low. absurd (omega arith)), λ p. refl),
      c.requires.seen.0,
      c.requires.seen.1 ∙ ap (λ n. getter [] n []) (sym zero),
    )

pub index-mailbox-requires : goal.index-mailbox-requires
index-mailbox-requires g c =
    let inv = c.loop-prepared_place.invariant in let steps = c.in-Some.ensures.steps.0 in
    let head = open_head c.args.mailboxes.now.items c.in-Some.prepared_place _ _ _ steps inv.2 in
    let place = head.0 in let count = inv.0 in let same = c.requires.«open».1 in
    let less : length (into_iter_items c.loop-prepared_place.prepared_place-iterator) ≡ length (into_iter_items c.next.new.self) + 1 = search (rules, common_steps, steps) in
    let below : c.in-Some.prepared_place.place < length c.args.mailboxes.now.items = omega arith in search rules

pub start_place-place_handle-requires-clause-prepared_place : goal.start_place-place_handle-requires-clause-prepared_place
start_place-place_handle-requires-clause-prepared_place g c κs within =
    let inv = c.loop-prepared_place.invariant in let steps = c.in-Some.ensures.steps.0 in
    let head = open_head c.args.mailboxes.now.items c.in-Some.prepared_place _ _ _ steps inv.2 in
    subst (λ (y : Mailbox). IsFreshAt y c.in-Some.prepared_place) (ap (λ n. slice_index_or c.args.mailboxes.now.items n c.index-mailbox.result.now) (sym head.0) ∙ sym c.index-mailbox.ensures) (head.1 c.index-mailbox.result.now)

pub start_place-place_handle-requires-clause-seen : goal.start_place-place_handle-requires-clause-seen
start_place-place_handle-requires-clause-seen g c κs within =
    let inv = c.loop-prepared_place.invariant in let steps = c.in-Some.ensures.steps.0 in
    let head = open_head c.args.mailboxes.now.items c.in-Some.prepared_place _ _ _ steps inv.2 in
    (inv.4, inv.5 ∙ ap (λ n. getter [] n []) (sym head.0))

pub loop-prepared_place-preserved : goal.loop-prepared_place-preserved
loop-prepared_place-preserved g c =
    let inv = c.loop-prepared_place.invariant in let steps = c.in-Some.ensures.steps.0 in
    let head = open_head c.args.mailboxes.now.items c.in-Some.prepared_place _ _ _ steps inv.2 in
    let items = c.push_reserved.ensures.items in
    let place_handle = c.start_place-place_handle.ensures.place_handle in
    let rest = into_iter_items c.next.new.self in
    let long : length c.push_reserved.new.self.items ≡ length c.loop-prepared_place.handles.items + 1 = search (rules, common_steps, items) in
    let less : length (into_iter_items c.loop-prepared_place.prepared_place-iterator) ≡ length rest + 1 = search (rules, common_steps, steps) in
    let count = inv.0 in (
      omega arith,
      subst (λ n. length c.args.prepared_places.items ≤ n) (sym c.push_reserved.ensures.capacity) inv.1,
      subst (λ n. IsPreparedFrom c.args.mailboxes.now.items rest n) (sym long) (open_tail c.args.mailboxes.now.items c.in-Some.prepared_place rest _ _ steps inv.2),
      subst (λ l. IsLinedUp c.args.events.now l) (sym items) (placed_more c.args.events.now c.loop-prepared_place.handles.items c.start_place-place_handle.result _ refl (place_handle.0 ∙ head.0) place_handle.1 inv.3.0, nothing_more c.loop-prepared_place.handles.items c.start_place-place_handle.result place_handle.2 inv.3.1),
      c.start_place-place_handle.ensures.seen.0,
      c.start_place-place_handle.ensures.seen.1 ∙ ap (λ n. getter [] n []) (ap (λ n. n + 1) head.0 ∙ sym long),
    )
