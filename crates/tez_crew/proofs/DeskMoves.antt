-- What a call of a desk changes, place by place.
use Rattle.std.proofs.Common.{◌≡◌, ◌≢◌, ◌<◌, ◌≤◌, ℕ, zero, suc, List, [], ◌∷◌, ◌++◌, length, sym, refl, ap, ◌∙◌, subst, arith}
use Rattle.std.specs.Prelude.{slice_index_or, slice_set}
use native.Mathlib.Decide.{ℕ_discrete}
use Rattle.tez_ids.specs.declared.AttemptId.{AttemptId}
use Rattle.tez_orders.specs.Outcomes.{ReportParts}
use Rattle.tez_crew.specs.declared.event_queue.EventView.{EventView}
use Rattle.tez_crew.specs.declared.place_handle.PlaceHandle.{PlaceHandle}
use Rattle.tez_crew.specs.Events.{getter, of}
use Rattle.tez_crew.specs.Orders.{attempts}
use Rattle.tez_crew.specs.Containers.{WasFull}
use Rattle.tez_orders.specs.Orders.{OrderParts}
use Rattle.std.proofs.lemmas.List.{length-append, length-map}
use Rattle.tez_crew.specs.Desks.{Adds, puts_of}
use Rattle.tez_crew.proofs.EventMoves.{more_here, more_else}

pub got_adds : (old new : EventView) (r : ReportParts) → new ≡ getter (old.got ++ r ∷ []) old.made old.known → Adds r.order.place r.order.attempt (λ p. of p old.got) (λ p. of p new.got)
got_adds old new r is = let got = ap (λ v. v.got) is in
    (ap (of r.order.place) got ∙ more_here r.order.place old.got r refl, λ p apart. ap (of p) got ∙ more_else p old.got r (λ e. apart (sym e)))

put_else : (handles : List PlaceHandle) (i p : ℕ) (now : PlaceHandle) → p ≢ i → slice_index_or (puts_of (slice_set handles i now)) p [] ≡ slice_index_or (puts_of handles) p []
put_else [] i p now apart = refl
put_else (l ∷ ls) zero zero now apart = absurd (apart refl)
put_else (l ∷ ls) zero (suc p) now apart = refl
put_else (l ∷ ls) (suc i) zero now apart = refl
put_else (l ∷ ls) (suc i) (suc p) now apart = put_else ls i p now (λ e. apart (ap suc e))

put_here : (handles : List PlaceHandle) (i : ℕ) (now : PlaceHandle) → i < length handles → slice_index_or (puts_of (slice_set handles i now)) i [] ≡ now.put.items
put_here [] i now low = absurd (omega arith)
put_here (l ∷ ls) zero now low = refl
put_here (l ∷ ls) (suc i) now low = put_here ls i now (omega arith)

pub put_was : (handles : List PlaceHandle) (i : ℕ) (was : PlaceHandle) → i < length handles → was ≡ slice_index_or handles i was → slice_index_or (puts_of handles) i [] ≡ was.put.items
put_was [] i was low at = absurd (omega arith)
put_was (l ∷ ls) zero was low at = ap (λ (w : PlaceHandle). w.put.items) (sym at)
put_was (l ∷ ls) (suc i) was low at = put_was ls i was (omega arith) at

set_adds_here : (handles : List PlaceHandle) (i : ℕ) (was now : PlaceHandle) (x : AttemptId) → i < length handles → was ≡ slice_index_or handles i was → now.put.items ≡ was.put.items ++ x ∷ []
    → Adds i x (λ p. slice_index_or (puts_of handles) p []) (λ p. slice_index_or (puts_of (slice_set handles i now)) p [])
set_adds_here handles i was now x low at more = (put_here handles i now low ∙ more ∙ ap (λ l. l ++ x ∷ []) (sym (put_was handles i was low at)), λ p apart. put_else handles i p now apart)

pub set_adds : (handles : List PlaceHandle) (i place : ℕ) (was now : PlaceHandle) (x : AttemptId) → i ≡ place → i < length handles → was ≡ slice_index_or handles i was → now.put.items ≡ was.put.items ++ x ∷ []
    → Adds place x (λ p. slice_index_or (puts_of handles) p []) (λ p. slice_index_or (puts_of (slice_set handles i now)) p [])
set_adds handles i place was now x is low at more =
    subst (λ n. Adds n x (λ p. slice_index_or (puts_of handles) p []) (λ p. slice_index_or (puts_of (slice_set handles i now)) p [])) is (set_adds_here handles i was now x low at more)

same_at : (handles : List PlaceHandle) (i : ℕ) (was now : PlaceHandle) → i < length handles → was ≡ slice_index_or handles i was → now.put.items ≡ was.put.items
    → (p : ℕ) → Dec (p ≡ i) → slice_index_or (puts_of (slice_set handles i now)) p [] ≡ slice_index_or (puts_of handles) p []
same_at handles i was now low at same p (yes e) = ap (λ k. slice_index_or (puts_of (slice_set handles i now)) k []) e ∙ put_here handles i now low ∙ same ∙ sym (put_was handles i was low at) ∙ ap (λ k. slice_index_or (puts_of handles) k []) (sym e)
same_at handles i was now low at same p (no apart) = put_else handles i p now apart

pub set_same : (handles : List PlaceHandle) (i : ℕ) (was now : PlaceHandle) → i < length handles → was ≡ slice_index_or handles i was → now.put.items ≡ was.put.items
    → (p : ℕ) → slice_index_or (puts_of (slice_set handles i now)) p [] ≡ slice_index_or (puts_of handles) p []
set_same handles i was now low at same p = same_at handles i was now low at same p (ℕ_discrete p i)

pub was_full : (put : List AttemptId) → WasFull put → 64 ≤ length put
was_full put full =
    let long : length put ≡ length (full.2.0 ++ attempts full.0) = ap length full.2.1 in
    let count : length full.0 ≡ 64 = full.1 in
    omega (arith, length-append full.2.0 (attempts full.0), length-map full.0 (λ (o : OrderParts). o.attempt))
