-- What the type of seats keeps of its queue, after each change.
use Rattle.std.proofs.Common.{◌≡◌, ℕ, ◌⊎◌, inl, inr, ◌+◌, ◌*◌, ◌<◌, ◌≤◌, zero, suc, Bool, true, false, not, List, [], ◌∷◌, ◌++◌, length, map, drop, get_or, slice_get, Option, Some, None, refl, sym, ap, ◌∙◌, true≢false, arith, unwrap_or, if◌then◌else◌}
use Rattle.std.specs.List.{AllByRecursion, sum_by}
use Rattle.std.specs.Option.{option_to_list}
use Rattle.std.proofs.lemmas.Bool.{cases_lt}
use Rattle.std.proofs.Math.ListN.{set}
use Rattle.std.proofs.lemmas.List.{length-set, set_past, set-get_or}
use Rattle.std.proofs.lemmas.List.Sums.{sum_by-set, sum_by-le}
use Rattle.std.proofs.lemmas.Option.{unwrap_or-slice_get, slice_get_past, slice_get_read}
use Rattle.tez_ids.specs.declared.AttemptId.{AttemptId}
use Rattle.tez_ids.specs.Same.{same_attempt}
use Rattle.tez_ids.proofs.Sameness.{same_attempt-true}
use Rattle.tez_lists.proofs.Cases.{cases}
use Rattle.tez_orders.specs.Orders.{OrderParts}
use Rattle.tez_inflight.specs.Seats.{SeatsState, Seat, Vacant, Gathers, Out, Records, seat_at, order_of, gatherer, order_out, first_out, gathering, without_order, tail_of, after_leave}
use Rattle.tez_inflight.specs.Given.{attempt, to_come, IsOut, AreGiven, withdrawn}
use Rattle.tez_inflight.proofs.OutLemmas.{has_none, has_another, keeps_order, waits, same_out, sent_out, all_out, out_push, out_filter}

to_come-le : (d : Seat) → to_come d ≤ 1
to_come-le Vacant = omega arith
to_come-le (Gathers a parts) = omega arith
to_come-le (Out order) = omega arith

few_to_come : (seats : List Seat) → sum_by to_come seats ≤ length seats
few_to_come seats = let h : sum_by to_come seats ≤ length seats * 1 = sum_by-le to_come 1 seats (λ i d _. to_come-le (get_or seats i d)) in omega (arith, h)

at_seat : (seats : List Seat) (p : ℕ) → seat_at seats p ≡ get_or seats p Vacant
at_seat seats p = unwrap_or-slice_get seats p Vacant

-- the orders to come, after a change of a seat
come_after : (seats : List Seat) (p : ℕ) (d : Seat) → p < length seats → sum_by to_come (set seats p d) + to_come (seat_at seats p) ≡ sum_by to_come seats + to_come d
come_after seats p d within = rw (at_seat seats p) (sum_by-set to_come seats p d Vacant within)

-- more room, and as many orders
pub given_room : (seats : List Seat) (orders others : List OrderParts) (n m room more : ℕ) → AreGiven seats orders n room → others ≡ orders → m ≡ n → room ≤ more → AreGiven seats others m more
given_room seats orders others n m room more h e f l = record { out = rw e h.out; room = let r = h.room in omega (arith, r) }

pub given_seat : (seats : List Seat) (orders others : List OrderParts) (n m room more p : ℕ) (a : AttemptId) (parts : List (ℕ × Records)) → AreGiven seats orders n room → others ≡ orders → m + length seats ≤ more → order_of (seat_at seats p) ≡ None
    → AreGiven (set seats p (Gathers a parts)) others m more
given_seat seats orders others n m room more p a parts h e l none = record {
  out = rw e (all_out seats (set seats p (Gathers a parts)) orders (λ o k. same_out o.attempt seats p (Gathers a parts) (λ other. sym (has_none o.attempt (seat_at seats p) none other)) ∙ k) h.out);
  room = let few = few_to_come (set seats p (Gathers a parts)) in let len = length-set seats p (Gathers a parts) in omega (arith, few, len);
}

same_to_come : (n : ℕ) (rs : Records) (d : Seat) → to_come (gathering n rs d) ≡ to_come d
same_to_come n rs Vacant = refl
same_to_come n rs (Gathers a parts) = refl
same_to_come n rs (Out order) = refl

pub given_gather : (seats : List Seat) (orders : List OrderParts) (n room p e : ℕ) (rs : Records) → AreGiven seats orders n room → p < length seats → AreGiven (set seats p (gathering e rs (seat_at seats p))) orders n room
given_gather seats orders n room p e rs h within = record {
  out = all_out seats (set seats p (gathering e rs (seat_at seats p))) orders (λ o k. same_out o.attempt seats p (gathering e rs (seat_at seats p)) (λ other. keeps_order o.attempt e rs (seat_at seats p) other) ∙ k) h.out;
  room =
      let r = h.room in
      let come = come_after seats p (gathering e rs (seat_at seats p)) within in
      let same = same_to_come e rs (seat_at seats p) in
      omega (arith, r, come, same);
}

one_to_come : (a : AttemptId) (d : Seat) → gatherer d ≡ Some a → to_come d ≡ 1
one_to_come a Vacant h = absurd (cc)
one_to_come a (Gathers b parts) h = refl
one_to_come a (Out order) h = absurd (cc)

pub in_range : (a : AttemptId) (seats : List Seat) (p : ℕ) → gatherer (seat_at seats p) ≡ Some a → p < length seats
in_range a [] p h = absurd (cc)
in_range a (x ∷ xs) zero h = omega arith
in_range a (x ∷ xs) (suc p) h = let k = in_range a xs p h in omega (arith, k)

-- another order stays out where one is put out
stays_out : (seats : List Seat) (p : ℕ) (order o : OrderParts) → gatherer (seat_at seats p) ≡ Some order.attempt → order_out seats order.attempt ≡ None → IsOut seats o → IsOut (set seats p (Out order)) o
stays_out seats p order o wait alone is = cases (same_attempt o.attempt order.attempt)
    (λ t. let same = same_attempt-true o.attempt order.attempt t in let e : Some o ≡ None = sym is ∙ ap (order_out seats) same ∙ alone in absurd (cc))
    (λ f. same_out o.attempt seats p (Out order) (λ other. has_another o.attempt order f other ∙ sym (has_none o.attempt (seat_at seats p) (waits order.attempt (seat_at seats p) wait) other)) ∙ is)

pub given_send : (seats : List Seat) (orders : List OrderParts) (n room p : ℕ) (order : OrderParts) → AreGiven seats orders n room → gatherer (seat_at seats p) ≡ Some order.attempt → order_out seats order.attempt ≡ None
    → AreGiven (set seats p (Out order)) (orders ++ order ∷ []) (n + 1) room
given_send seats orders n room p order h wait alone =
    let within = in_range order.attempt seats p wait in
    record {
      out = out_push (set seats p (Out order)) orders order (all_out seats (set seats p (Out order)) orders (λ o k. stays_out seats p order o wait alone k) h.out) (sent_out seats p order alone within);
      room =
          let r = h.room in
          let come = come_after seats p (Out order) within in
          let one = one_to_come order.attempt (seat_at seats p) wait in
          omega (arith, r, come, one);
    }

-- there is room for the order of an attempt that waits
pub room_for : (seats : List Seat) (orders : List OrderParts) (n room p : ℕ) (a : AttemptId) → AreGiven seats orders n room → gatherer (seat_at seats p) ≡ Some a → n < room
room_for seats orders n room p a h wait =
    let within = in_range a seats p wait in
    let r = h.room in
    let come = come_after seats p Vacant within in
    let one = one_to_come a (seat_at seats p) wait in
    omega (arith, r, come, one)

out_withdrawn : (seats : List Seat) (p : ℕ) (d : Seat) (orders : List OrderParts) → seat_at seats p ≡ d → AllByRecursion (IsOut seats) orders → AllByRecursion (IsOut (set seats p Vacant)) (withdrawn d orders)
out_withdrawn seats p Vacant orders e h = all_out seats (set seats p Vacant) orders (λ o k. same_out o.attempt seats p Vacant (λ other. rw e refl) ∙ k) h
out_withdrawn seats p (Gathers a parts) orders e h = all_out seats (set seats p Vacant) orders (λ o k. same_out o.attempt seats p Vacant (λ other. rw e refl) ∙ k) h
out_withdrawn seats p (Out order) orders e h = out_filter seats (set seats p Vacant) (λ o. not (same_attempt o.attempt order.attempt)) orders
    (λ o t k. same_out o.attempt seats p Vacant (λ other. rw e (sym (has_another o.attempt order (not_true (same_attempt o.attempt order.attempt) t) other))) ∙ k) h where
      not_true : (a : Bool) → not a ≡ true → a ≡ false
      not_true true h = absurd (true≢false (sym h))
      not_true false h = refl

pub given_leave : (seats : List Seat) (orders : List OrderParts) (n m room more p : ℕ) → AreGiven seats orders n room → p < length seats → m ≤ n → more ≡ room → AreGiven (set seats p Vacant) (withdrawn (seat_at seats p) orders) m more
given_leave seats orders n m room more p h within l e = record {
  out = out_withdrawn seats p (seat_at seats p) orders refl h.out;
  room =
      let r = h.room in
      let come = come_after seats p Vacant within in
      omega (arith, r, come);
}

-- the attempts of the orders that stay
pub attempts_withdrawn : (d : Seat) (orders : List OrderParts) → map attempt (withdrawn d orders) ≡ without_order d (map attempt orders)
attempts_withdrawn Vacant orders = refl
attempts_withdrawn (Gathers a parts) orders = refl
attempts_withdrawn (Out order) [] = refl
attempts_withdrawn (Out order) (o ∷ os) = cases (same_attempt o.attempt order.attempt)
    (λ t. rw t (attempts_withdrawn (Out order) os))
    (λ f. rw f (ap (λ xs. o.attempt ∷ xs) (attempts_withdrawn (Out order) os)))

-- ---- the first order

popped : (r : Option OrderParts) (orders rest : List OrderParts) → orders ≡ option_to_list r ++ rest → rest ≡ drop 1 orders → r ≡ slice_get orders 0
popped None [] rest e f = refl
popped (Some x) [] rest e f = absurd (cc)
popped None (o ∷ os) rest e f = let g : length (o ∷ os) ≡ length os = ap length (e ∙ f) in absurd (omega (arith, g))
popped (Some x) (o ∷ os) rest e f = cc

pub first_popped : (seats : List Seat) (r : Option OrderParts) (orders rest : List OrderParts) → AllByRecursion (IsOut seats) orders → orders ≡ option_to_list r ++ rest → rest ≡ drop 1 orders → r ≡ first_out seats (map attempt orders)
first_popped seats r [] rest h e f = popped r [] rest e f
first_popped seats r (o ∷ os) rest h e f = popped r (o ∷ os) rest e f ∙ sym h.0

pub given_take : (seats : List Seat) (orders rest : List OrderParts) (n m room more : ℕ) → AreGiven seats orders n room → rest ≡ drop 1 orders → m ≤ n → more ≡ room → AreGiven seats rest m more
given_take seats [] rest n m room more h e l f = record { out = rw e tt; room = let r = h.room in omega (arith, r) }
given_take seats (o ∷ os) rest n m room more h e l f = record { out = rw e h.out.1; room = let r = h.room in omega (arith, r) }

pub attempts_left : (orders rest : List OrderParts) → rest ≡ drop 1 orders → map attempt rest ≡ tail_of (map attempt orders)
attempts_left [] rest e = rw e refl
attempts_left (o ∷ os) rest e = rw e refl

-- ---- the same of equal parts

pub transported : (seats ds : List Seat) (orders os : List OrderParts) (n m room more : ℕ) → ds ≡ seats → os ≡ orders → m ≡ n → more ≡ room → AreGiven seats orders n room → AreGiven ds os m more
transported seats ds orders os n m room more e f g h k = rw (e, f, g, h) k

pub read_seat : (seats : List Seat) (p : ℕ) (x : Seat) → p < length seats → x ≡ get_or seats p x → seat_at seats p ≡ x
read_seat seats p x l e = ap (λ o. unwrap_or o Vacant) (slice_get_read seats (length seats) p x refl l e)

pub past_seat : (seats : List Seat) (p : ℕ) → length seats ≤ p → seat_at seats p ≡ Vacant
past_seat seats p l = ap (λ o. unwrap_or o Vacant) (slice_get_past seats p l)

pub given_gathered : (ok : Bool) (seats ds : List Seat) (orders : List OrderParts) (n room p e : ℕ) (rs : Records) → AreGiven seats orders n room → ds ≡ (if ok then set seats p (gathering e rs (seat_at seats p)) else seats) → AreGiven ds orders n room
given_gathered false seats ds orders n room p e rs h eq = rw eq h
given_gathered true seats ds orders n room p e rs h eq = rw eq (by (cases_lt p (length seats))) where
  by : (p < length seats) ⊎ (length seats ≤ p) → AreGiven (set seats p (gathering e rs (seat_at seats p))) orders n room
  by (inl l) = given_gather seats orders n room p e rs h l
  by (inr l) = rw (set_past seats p (gathering e rs (seat_at seats p)) l) h

pub seat_gathered : (ok : Bool) (seats : List Seat) (p : ℕ) (x new : Seat) (e : ℕ) (rs : Records) → p < length seats → x ≡ get_or seats p x → new ≡ (if ok then gathering e rs x else x)
    → set seats p new ≡ (if ok then set seats p (gathering e rs (seat_at seats p)) else seats)
seat_gathered true seats p x new e rs l r h = ap (set seats p) (h ∙ ap (gathering e rs) (sym (read_seat seats p x l r)))
seat_gathered false seats p x new e rs l r h = ap (set seats p) (h ∙ r) ∙ set-get_or seats p x

pub none_gathered : (seats : List Seat) (p : ℕ) (e : ℕ) (rs : Records) → length seats ≤ p → seats ≡ set seats p (gathering e rs (seat_at seats p))
none_gathered seats p e rs l = sym (set_past seats p (gathering e rs (seat_at seats p)) l)

pub state_left : (seats ds : List Seat) (orders os : List OrderParts) (p : ℕ) (x : Seat) (s : SeatsState) → record { seats = seats; queue = map attempt orders } ≡ s → seat_at seats p ≡ x → ds ≡ set seats p Vacant → os ≡ withdrawn x orders
    → record { seats = ds; queue = map attempt os } ≡ after_leave s p
state_left seats ds orders os p x s v r e f = rw (← v) (rw (e, f, r) (rw (attempts_withdrawn x orders) refl))

pub state_past : (s : SeatsState) (p : ℕ) → length s.seats ≤ p → s ≡ after_leave s p
state_past s p l = rw (set_past s.seats p Vacant l, past_seat s.seats p l) refl
