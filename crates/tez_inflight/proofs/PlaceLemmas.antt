-- Where an order that is out lies.
use Rattle.std.proofs.Common.{◌≡◌, ℕ, suc, List, [], ◌∷◌, Some, None, refl, sym, ap, ◌∙◌}
use Rattle.std.proofs.lemmas.Option.{same_Some}
use Rattle.tez_ids.specs.declared.AttemptId.{AttemptId}
use Rattle.tez_ids.specs.Same.{same_attempt}
use Rattle.tez_ids.proofs.Sameness.{same_attempt-true}
use Rattle.tez_lists.proofs.Cases.{cases}
use Rattle.tez_orders.specs.Orders.{OrderParts}
use Rattle.tez_inflight.specs.Seats.{Seat, Vacant, Gathers, Out, seat_at, order_out, IsAtSeat}

pub found_at : (seats : List Seat) (a : AttemptId) (o : OrderParts) → order_out seats a ≡ Some o → IsAtSeat seats a o
found_at [] a o h = absurd (cc)
found_at (Vacant ∷ ds) a o h = let r = found_at ds a o h in record { place = suc r.place; there = r.there; same = r.same }
found_at (Gathers b parts ∷ ds) a o h = let r = found_at ds a o h in record { place = suc r.place; there = r.there; same = r.same }
found_at (Out order ∷ ds) a o h = cases (same_attempt a order.attempt)
    (λ t. let e : order ≡ o = same_Some order o (rw t at h) in let s = same_attempt-true a order.attempt t in record { place = 0; there = ap Out e; same = ap (λ (x : OrderParts). x.attempt) (sym e) ∙ sym s })
    (λ f. let k : order_out ds a ≡ Some o = rw f at h in let r = found_at ds a o k in record { place = suc r.place; there = r.there; same = r.same })

pub none_out : (seats : List Seat) (a : AttemptId) → ((p : ℕ) (o : OrderParts) → seat_at seats p ≡ Out o → o.attempt ≡ a → ⊥) → order_out seats a ≡ None
none_out [] a h = refl
none_out (Vacant ∷ ds) a h = none_out ds a (λ p o. h (suc p) o)
none_out (Gathers b parts ∷ ds) a h = none_out ds a (λ p o. h (suc p) o)
none_out (Out order ∷ ds) a h = cases (same_attempt a order.attempt)
    (λ t. absurd (h 0 order refl (sym (same_attempt-true a order.attempt t))))
    (λ f. rw f (none_out ds a (λ p o. h (suc p) o)))
