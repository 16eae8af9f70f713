-- One more place that is opened.
use Rattle.std.proofs.Common.{◌≡◌, ◌+◌, ℕ, zero, suc, List, [], ◌∷◌, ◌++◌, length, sym, refl, ap, ◌∙◌, subst, below_more, rules, arith}
use Rattle.std.specs.Prelude.{slice_index_or, Option}
use Rattle.crossbeam_queue.specs.declared.array_queue.Doing.{Doing}
use Rattle.crossbeam_queue.specs.declared.array_queue.Slotted.{Slotted}
use Rattle.tez_orders.specs.Outcomes.{ReportParts}
use Rattle.tez_crew.specs.declared.event_queue.EventView.{EventView}
use Rattle.tez_crew.specs.declared.place_handle.PlaceHandle.{PlaceHandle}
use Rattle.std.proofs.lemmas.List.{get_or_append_left, get_or-append_right}
use Rattle.std.proofs.lemmas.Grind.{common_steps}
use Rattle.tez_crew.specs.declared.container.Mailbox.{Mailbox}
use Rattle.tez_crew.specs.declared.start.PreparedPlace.{PreparedPlace}
use Rattle.tez_crew.specs.PreparedPlaces.{IsFreshAt, IsPrepared, IsPreparedFrom, IsPlaced, IsPlacedFrom, HasNothingPut}

module _ {A : Type 0} where
  pub read_last : (xs : List A) (x d : A) (n : ℕ) → length xs ≡ n → slice_index_or (xs ++ x ∷ []) n d ≡ x
  read_last xs x d n e = get_or-append_right xs (x ∷ []) n n d e (omega arith) ∙ search (rules, common_steps)

pub opens_more : (mailboxes : List Mailbox) (prepared_places : List PreparedPlace) (n : ℕ) (s : Mailbox) (o : PreparedPlace) → length mailboxes ≡ n → length prepared_places ≡ n → IsPrepared mailboxes prepared_places
    → o.place ≡ n → IsFreshAt s o → IsPrepared (mailboxes ++ s ∷ []) (prepared_places ++ o ∷ [])
opens_more mailboxes prepared_places n s o long long' before place fresh i d low =
    below_more (λ k. ((slice_index_or (prepared_places ++ o ∷ []) k d).place ≡ k) × ((ds : Mailbox) → IsFreshAt (slice_index_or (mailboxes ++ s ∷ []) k ds) (slice_index_or (prepared_places ++ o ∷ []) k d))) n
    (λ k less. (
      ap (λ (y : PreparedPlace). y.place) (get_or_append_left prepared_places (o ∷ []) d k (omega arith)) ∙ (before k d (omega arith)).0,
      λ ds. subst (λ (y : Mailbox × PreparedPlace). IsFreshAt y.0 y.1) (λ j. (sym (get_or_append_left mailboxes (s ∷ []) ds k (omega arith)) j, sym (get_or_append_left prepared_places (o ∷ []) d k (omega arith)) j)) ((before k d (omega arith)).1 ds),
    ))
    (ap (λ (y : PreparedPlace). y.place) (read_last prepared_places o d n long') ∙ place, λ ds. subst (λ (y : Mailbox × PreparedPlace). IsFreshAt y.0 y.1) (λ j. (sym (read_last mailboxes s ds n long) j, sym (read_last prepared_places o d n long') j)) fresh)
    i (search (rules, common_steps))

pub open_begin : (mailboxes : List Mailbox) (prepared_places : List PreparedPlace) (made : ℕ) → made ≡ 0 → IsPrepared mailboxes prepared_places → IsPreparedFrom mailboxes prepared_places made
open_begin mailboxes prepared_places made none fits k o low =
    subst (λ n. ((slice_index_or prepared_places k o).place ≡ n) × ((s : Mailbox) → IsFreshAt (slice_index_or mailboxes n s) (slice_index_or prepared_places k o))) (omega arith) (fits k o low)

pub open_head : (mailboxes : List Mailbox) (o : PreparedPlace) (rest all : List PreparedPlace) (made : ℕ) → all ≡ o ∷ rest → IsPreparedFrom mailboxes all made → (o.place ≡ made) × ((s : Mailbox) → IsFreshAt (slice_index_or mailboxes made s) o)
open_head mailboxes o rest all made is fits =
    let h : IsPreparedFrom mailboxes (o ∷ rest) made = subst (λ l. IsPreparedFrom mailboxes l made) is fits in
    subst (λ n. (o.place ≡ n) × ((s : Mailbox) → IsFreshAt (slice_index_or mailboxes n s) o)) (omega arith) (h 0 o (omega arith))

pub open_tail : (mailboxes : List Mailbox) (o : PreparedPlace) (rest all : List PreparedPlace) (made : ℕ) → all ≡ o ∷ rest → IsPreparedFrom mailboxes all made → IsPreparedFrom mailboxes rest (made + 1)
open_tail mailboxes o rest all made is fits k d low =
    let h : IsPreparedFrom mailboxes (o ∷ rest) made = subst (λ l. IsPreparedFrom mailboxes l made) is fits in
    subst (λ n. ((slice_index_or rest k d).place ≡ n) × ((s : Mailbox) → IsFreshAt (slice_index_or mailboxes n s) (slice_index_or rest k d))) (omega arith) (h (suc k) d (omega arith))

module _ {Q A : Type 0} (events : Slotted (Option ReportParts) (Doing ReportParts EventView) Q A) where
  pub placed_more : (handles : List PlaceHandle) (place_handle : PlaceHandle) (made : ℕ) → length handles ≡ made → place_handle.container.place ≡ made → place_handle.container.events.now.table.shared.table_id ≡ events.table.shared.table_id → IsPlaced events handles → IsPlaced events (handles ++ place_handle ∷ [])
  placed_more handles place_handle made long place same before i d low =
      below_more (λ k. ((slice_index_or (handles ++ place_handle ∷ []) k d).container.place ≡ k) × ((slice_index_or (handles ++ place_handle ∷ []) k d).container.events.now.table.shared.table_id ≡ events.table.shared.table_id)) made
      (λ k less. subst (λ (y : PlaceHandle). (y.container.place ≡ k) × (y.container.events.now.table.shared.table_id ≡ events.table.shared.table_id)) (sym (get_or_append_left handles (place_handle ∷ []) d k (omega arith))) (before k d (omega arith)))
      (subst (λ (y : PlaceHandle). (y.container.place ≡ made) × (y.container.events.now.table.shared.table_id ≡ events.table.shared.table_id)) (sym (read_last handles place_handle d made long)) (place, same)) i (search (rules, common_steps))

  pub placed_begin : (handles : List PlaceHandle) (done : ℕ) → done ≡ 0 → IsPlaced events handles → IsPlacedFrom events handles done
  placed_begin handles done none fits k d low = let h = fits k d low in (h.0 ∙ omega arith, h.1)

  pub placed_head : (place_handle : PlaceHandle) (rest all : List PlaceHandle) (done : ℕ) → all ≡ place_handle ∷ rest → IsPlacedFrom events all done → (place_handle.container.place ≡ done) × (place_handle.container.events.now.table.shared.table_id ≡ events.table.shared.table_id)
  placed_head place_handle rest all done is fits =
      let h : IsPlacedFrom events (place_handle ∷ rest) done = subst (λ l. IsPlacedFrom events l done) is fits in let r = h 0 place_handle (omega arith) in (r.0 ∙ omega arith, r.1)

  pub placed_tail : (place_handle : PlaceHandle) (rest all : List PlaceHandle) (done : ℕ) → all ≡ place_handle ∷ rest → IsPlacedFrom events all done → IsPlacedFrom events rest (done + 1)
  placed_tail place_handle rest all done is fits k d low =
      let h : IsPlacedFrom events (place_handle ∷ rest) done = subst (λ l. IsPlacedFrom events l done) is fits in let r = h (suc k) d (omega arith) in (r.0 ∙ omega arith, r.1)

pub nothing_more : (handles : List PlaceHandle) (place_handle : PlaceHandle) → place_handle.put.items ≡ [] → HasNothingPut handles → HasNothingPut (handles ++ place_handle ∷ [])
nothing_more [] place_handle none before zero = none
nothing_more [] place_handle none before (suc p) = refl
nothing_more (l ∷ ls) place_handle none before zero = before 0
nothing_more (l ∷ ls) place_handle none before (suc p) = nothing_more ls place_handle none (λ k. before (suc k)) p
