-- The order of an attempt that is out, after a change of one seat.
use Rattle.std.proofs.Common.{◌≡◌, ℕ, ◌<◌, zero, suc, Bool, true, false, List, [], ◌∷◌, ◌++◌, length, Option, Some, None, refl, ap, ◌∙◌, arith}
use Rattle.std.specs.List.{AllByRecursion, filter}
use Rattle.std.proofs.Math.ListN.{set}
use Rattle.tez_ids.specs.declared.AttemptId.{AttemptId}
use Rattle.tez_ids.specs.Same.{same_attempt}
use Rattle.tez_ids.proofs.Sameness.{same_attempt-refl}
use Rattle.tez_lists.proofs.Cases.{cases}
use Rattle.tez_orders.specs.Orders.{OrderParts}
use Rattle.tez_inflight.specs.Seats.{Seat, Vacant, Gathers, Out, Records, seat_at, order_of, gatherer, order_or, order_out, gathering}
use Rattle.tez_inflight.specs.Given.{IsOut}

-- ---- one seat

-- a seat that has no order of the attempt gives way to others
pub gives_way : (a : AttemptId) (d : Seat) → order_or a d None ≡ None → (o : Option OrderParts) → order_or a d o ≡ o
gives_way a Vacant h o = refl
gives_way a (Gathers b parts) h o = refl
gives_way a (Out order) h o = cases (same_attempt a order.attempt)
    (λ t. let e : Some order ≡ None = rw t at h in absurd (cc))
    (λ f. rw f refl)

pub has_none : (a : AttemptId) (d : Seat) → order_of d ≡ None → (o : Option OrderParts) → order_or a d o ≡ o
has_none a Vacant h o = refl
has_none a (Gathers b parts) h o = refl
has_none a (Out order) h o = absurd (cc)

pub has_another : (a : AttemptId) (order : OrderParts) → same_attempt a order.attempt ≡ false → (o : Option OrderParts) → order_or a (Out order) o ≡ o
has_another a order f o = rw f refl

pub has_it : (order : OrderParts) (o : Option OrderParts) → order_or order.attempt (Out order) o ≡ Some order
has_it order o = rw (same_attempt-refl order.attempt) refl

none_of_both : (a : AttemptId) (d : Seat) (o : Option OrderParts) → order_or a d o ≡ None → (order_or a d None ≡ None) × (o ≡ None)
none_of_both a Vacant o h = (refl, h)
none_of_both a (Gathers b parts) o h = (refl, h)
none_of_both a (Out order) o h = cases (same_attempt a order.attempt)
    (λ t. let e : Some order ≡ None = rw t at h in absurd (cc))
    (λ f. let e : o ≡ None = rw f at h in (rw f refl, e))

pub keeps_order : (a : AttemptId) (n : ℕ) (rs : Records) (d : Seat) (o : Option OrderParts) → order_or a (gathering n rs d) o ≡ order_or a d o
keeps_order a n rs Vacant o = refl
keeps_order a n rs (Gathers b parts) o = refl
keeps_order a n rs (Out order) o = refl

pub waits : (a : AttemptId) (d : Seat) → gatherer d ≡ Some a → order_of d ≡ None
waits a Vacant h = refl
waits a (Gathers b parts) h = refl
waits a (Out order) h = absurd (cc)

-- ---- all seats

-- a seat with the same order in place of another
pub same_out : (a : AttemptId) (seats : List Seat) (p : ℕ) (d : Seat) → ((o : Option OrderParts) → order_or a d o ≡ order_or a (seat_at seats p) o) → order_out (set seats p d) a ≡ order_out seats a
same_out a [] p d h = refl
same_out a (x ∷ xs) zero d h = h (order_out xs a)
same_out a (x ∷ xs) (suc p) d h = ap (order_or a x) (same_out a xs p d h)

-- an order that is put out
pub sent_out : (seats : List Seat) (p : ℕ) (order : OrderParts) → order_out seats order.attempt ≡ None → p < length seats → order_out (set seats p (Out order)) order.attempt ≡ Some order
sent_out [] p order h within = absurd (omega arith)
sent_out (x ∷ xs) zero order h within = has_it order (order_out xs order.attempt)
sent_out (x ∷ xs) (suc p) order h within =
    let k = none_of_both order.attempt x (order_out xs order.attempt) h in
    gives_way order.attempt x k.0 (order_out (set xs p (Out order)) order.attempt) ∙ sent_out xs p order k.1 (omega arith)

-- ---- the orders of a queue

pub all_out : (seats others : List Seat) (orders : List OrderParts) → ((o : OrderParts) → IsOut seats o → IsOut others o) → AllByRecursion (IsOut seats) orders → AllByRecursion (IsOut others) orders
all_out seats others [] f h = tt
all_out seats others (o ∷ os) f h = (f o h.0, all_out seats others os f h.1)

pub out_push : (seats : List Seat) (orders : List OrderParts) (o : OrderParts) → AllByRecursion (IsOut seats) orders → IsOut seats o → AllByRecursion (IsOut seats) (orders ++ o ∷ [])
out_push seats [] o h k = (k, tt)
out_push seats (x ∷ xs) o h k = (h.0, out_push seats xs o h.1 k)

pub out_filter : (seats others : List Seat) (test : OrderParts → Bool) (orders : List OrderParts) → ((o : OrderParts) → test o ≡ true → IsOut seats o → IsOut others o) → AllByRecursion (IsOut seats) orders → AllByRecursion (IsOut others) (filter test orders)
out_filter seats others test [] f h = tt
out_filter seats others test (o ∷ os) f h = cases (test o)
    (λ t. rw t (f o t h.0, out_filter seats others test os f h.1))
    (λ n. rw n (out_filter seats others test os f h.1))
