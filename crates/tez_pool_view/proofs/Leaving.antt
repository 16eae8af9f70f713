-- Entries that leave the view as it is, and a stop.
use Rattle.std.specs.Prelude.{◌≡◌, ℕ, zero, suc, ◌+◌, ◌<◌, ◌≤◌, ⊤, Bool, true, false, not, ◌&&◌, IsTrue, if◌then◌else◌, List, [], ◌∷◌, ◌++◌, map, take, Option, Some, None, is_some, count_by, refl}
use Rattle.std.proofs.Common.{ap, sym, ◌∙◌, arith, cond}
use Rattle.std.proofs.lemmas.List.Sums.{sum_by-cons}
use Rattle.tez_ids.specs.declared.AttemptId.{AttemptId}
use Rattle.tez_ids.specs.declared.Epoch.{Epoch}
use Rattle.tez_lists.specs.Numbers.{numbers_from}
use Rattle.tez_lists.proofs.Tables.{map_below, each_each}
use Rattle.tez_plan.specs.Dag.{Dag, edge}
use Rattle.tez_conf.specs.declared.values.ConfValues.{ConfValues}
use Rattle.tez_events.specs.declared.StopCause.{StopCause}
use Rattle.tez_events.specs.declared.Entry.{Entry}
use Rattle.tez_events.specs.declared.Entry.TheVariants.{Opened, Over, Queued, Placed, Fetched, ReadError, InputFailed, Ordered, Succeeded, Made, Failed, Killed, NodeLost, Stopped}
use Rattle.tez_history.specs.Shape.{numbers_below, places}
use Rattle.tez_history.specs.History.{Past, extend, holder, container_of, next_container, winner, held_below}
use Rattle.tez_history.specs.Derived.{tasks, notices, is_on_node, is_on_shelf}
use Rattle.tez_history.specs.Steps.{each_after, requeue, withdrawal, withdrawn_if, withdraw_lost, node_withdrawals, fetch_entries, output_lost_entries}
use Rattle.tez_history.specs.Rules.{is_at_start}
use Rattle.tez_history.specs.Follows.{IsMade, MayFollow, AllMayFollow}
use Rattle.tez_laws.proofs.Places.{none_held_at_start}
use Rattle.tez_laws.proofs.StepLaw.{AllNotices, notices_are}
use Rattle.tez_pool.specs.declared.place.Place.{Place}
use Rattle.tez_pool.specs.State.{PoolState}
use Rattle.tez_pool.specs.Table.{after_clear, clear_place, cleared, is_taken, number_in_order, numbers_for}
use Rattle.tez_pool_view.specs.View.{held_by, place_view, pool_view}
use Rattle.tez_pool_view.proofs.Holding.{with_places, place_with, view_queued}

-- ---- entries that concern no place

abbrev pub Leaves : Entry → Type 0
Leaves (Placed _ _ _) = ⊥
Leaves (Ordered _) = ⊥
Leaves (Succeeded _) = ⊥
Leaves (Failed _) = ⊥
Leaves (Killed _ _) = ⊥
Leaves (NodeLost _ _) = ⊥
Leaves (Stopped _) = ⊥
Leaves _ = ⊤

abbrev pub AllLeave : List Entry → Type 0
AllLeave [] = ⊤
AllLeave (e ∷ es) = Leaves e × AllLeave es

-- where nobody holds a place, it does not matter where the attempts stand
none_same : (past later : Past) (o : Option AttemptId) → o ≡ None → held_by later o ≡ held_by past o
none_same past later o h = ap (held_by later) h ∙ sym (ap (held_by past) h)

pub leave_opened : (c : ConfValues) (past : Past) (e : Epoch) → IsTrue (is_at_start past) → pool_view c (Opened e ∷ past) ≡ pool_view c past
leave_opened c past e f =
    ap (with_places (pool_view c past)) (map_below (place_view c (Opened e ∷ past)) (place_view c past) 0 (places c)
    (λ p _ _. ap (place_with (container_of c p past)) (none_same past (Opened e ∷ past) (holder p past) (none_held_at_start past p f))))

pub leave_over : (c : ConfValues) (past : Past) → IsTrue (is_at_start past) → pool_view c (Over ∷ past) ≡ pool_view c past
leave_over c past f =
    ap (with_places (pool_view c past)) (map_below (place_view c (Over ∷ past)) (place_view c past) 0 (places c)
    (λ p _ _. ap (place_with (container_of c p past)) (none_same past (Over ∷ past) (holder p past) (none_held_at_start past p f))))

leave_one : (g : Dag) (c : ConfValues) (past : Past) (e : Entry) → IsMade g c past → MayFollow g c past e → Leaves e → pool_view c (e ∷ past) ≡ pool_view c past
leave_one g c past (Opened e) m f h = leave_opened c past e f.0
leave_one g c past Over m f h = leave_over c past f
leave_one g c past (Queued a) m f h = view_queued g c past a m f.2
leave_one g c past (Placed _ _ _) m f h = absurd h
leave_one g c past (Ordered _) m f h = absurd h
leave_one g c past (Succeeded _) m f h = absurd h
leave_one g c past (Failed _) m f h = absurd h
leave_one g c past (Killed _ _) m f h = absurd h
leave_one g c past (NodeLost _ _) m f h = absurd h
leave_one g c past (Stopped _) m f h = absurd h
leave_one g c past _ m f h = refl

pub leave_all : (g : Dag) (c : ConfValues) (past : Past) (es : List Entry) → IsMade g c past → AllMayFollow g c past es → AllLeave es → pool_view c (extend past es) ≡ pool_view c past
leave_all g c past [] m f h = refl
leave_all g c past (e ∷ es) m f h = leave_all g c (e ∷ past) es (f.0, m) f.1 h.1 ∙ leave_one g c past e m f.0 h.0

pub leave-append : (xs ys : List Entry) → AllLeave xs → AllLeave ys → AllLeave (xs ++ ys)
leave-append [] ys h k = k
leave-append (x ∷ xs) ys h k = (h.0, leave-append xs ys h.1 k)

pub leave-each : {X : Type 0} (part : Past → X → List Entry) → ((past : Past) (x : X) → AllLeave (part past x)) → (past : Past) (xs : List X) → AllLeave (each_after part past xs)
leave-each part h past [] = tt
leave-each part h past (x ∷ xs) = leave-append (part past x) (each_after part (extend past (part past x)) xs) (h past x) (leave-each part h (extend past (part past x)) xs)

leave_notices : (es : List Entry) → AllNotices es → AllLeave es
leave_notices [] h = tt
leave_notices (InputFailed _ _ _ _ ∷ es) h = (tt, leave_notices es h)
leave_notices (_ ∷ es) h = absurd h

leave_withdrawal : (g : Dag) (past : Past) (w : AttemptId) → AllLeave (withdrawal g past w)
leave_withdrawal g past w = (tt, leave-append (notices g past w) (requeue past w.task) (leave_notices (notices g past w) (notices_are g past w)) (tt, tt))

leave_withdrawn : (g : Dag) (c : ConfValues) (slot : ℕ) (before past : Past) (o : Option AttemptId) → AllLeave (withdrawn_if g c slot before past o)
leave_withdrawn g c slot before past None = tt
leave_withdrawn g c slot before past (Some w) = by (is_on_node g c before slot w) where
  by : (b : Bool) → AllLeave (if b then withdrawal g past w else [])
  by true = leave_withdrawal g past w
  by false = tt

pub leave_withdrawals : (g : Dag) (c : ConfValues) (slot : ℕ) (before past : Past) → AllLeave (node_withdrawals g c slot before past)
leave_withdrawals g c slot before past = leave-each (withdraw_lost g c slot before) (λ p t. leave_withdrawn g c slot before p (winner t p)) past (tasks g before)

pub leave_fetch : (g : Dag) (c : ConfValues) (past : Past) (a : AttemptId) (e i : ℕ) (o : Option AttemptId) → AllLeave (fetch_entries g c past a e i o)
leave_fetch g c past a e i None = tt
leave_fetch g c past a e i (Some w) = by (is_on_shelf g c past w) where
  by : (b : Bool) → AllLeave (if b then Fetched a (edge e) i w ∷ [] else ReadError a (edge e) i w ∷ withdrawal g (ReadError a (edge e) i w ∷ past) w)
  by true = (tt, tt)
  by false = (tt, leave_withdrawal g (ReadError a (edge e) i w ∷ past) w)

pub leave_output : (o : Option AttemptId) → AllLeave (output_lost_entries o)
leave_output None = tt
leave_output (Some w) = (tt, tt)

pub leave_made : (a : AttemptId) (made : List (ℕ × ℕ)) → AllLeave (map (λ m. Made a (edge m.0) m.1) made)
leave_made a [] = tt
leave_made a (x ∷ xs) = (tt, leave_made a xs)

-- ---- a stop

take_each : {X : Type 0} (f : ℕ → X) (a n p : ℕ) → p ≤ n → take p (map f (numbers_from a n)) ≡ map f (numbers_from a p)
take_each f a n zero h = refl
take_each f a zero (suc p) h = absurd (omega arith)
take_each f a (suc n) (suc p) h = ap (λ xs. f a ∷ xs) (take_each f (suc a) n p (omega arith))

count_each : {X : Type 0} (t : X → Bool) (s : ℕ → Bool) (f : ℕ → X) (a n : ℕ) → ((q : ℕ) → t (f q) ≡ s q) → count_by t (map f (numbers_from a n)) ≡ count_by s (numbers_from a n)
count_each t s f a zero h = refl
count_each t s f a (suc n) h =
    let x = sum_by-cons (λ y. cond (t y) 1 0) (f a) (map f (numbers_from (suc a) n)) in
    let y = sum_by-cons (λ y. cond (s y) 1 0) a (numbers_from (suc a) n) in
    let here : cond {A = ℕ} (t (f a)) 1 0 ≡ cond {A = ℕ} (s a) 1 0 = ap (λ b. cond {A = ℕ} b 1 0) (h a) in
    let rest : count_by t (map f (numbers_from (suc a) n)) ≡ count_by s (numbers_from (suc a) n) = count_each t s f (suc a) n h in
    omega arith

taken_same : (past : Past) (o : Option AttemptId) → is_some (held_by past o) ≡ is_some o
taken_same past None = refl
taken_same past (Some a) = refl

cleared_at : (reuse : Bool) (n k : ℕ) (past : Past) (o : Option AttemptId) → clear_place reuse n (place_with k (held_by past o)) ≡ place_with (if not reuse && is_some o then n else k) None
cleared_at true n k past None = refl
cleared_at false n k past None = refl
cleared_at true n k past (Some a) = refl
cleared_at false n k past (Some a) = refl

abbrev with_places_and_next : PoolState → List Place → ℕ → PoolState
with_places_and_next s ps n = record s { places = ps; next = n }

pub view_stopped : (c : ConfValues) (past : Past) (cause : StopCause) → after_clear (pool_view c past) ≡ pool_view c (Stopped cause ∷ past)
view_stopped c past cause =
    let all = map (place_view c past) (numbers_below (places c)) in
    let next = next_container c past in
    let lists : cleared c.reuse next all ≡ map (place_view c (Stopped cause ∷ past)) (numbers_below (places c)) =
    each_each (λ p. clear_place c.reuse (number_in_order all next p)) (place_view c past) 0 (places c)
    ∙ map_below (λ p. clear_place c.reuse (number_in_order all next p) (place_view c past p)) (place_view c (Stopped cause ∷ past)) 0 (places c) (λ p _ b. at p (omega arith)) in
    ap (λ ps. with_places_and_next (pool_view c past) ps (next + numbers_for c.reuse (count_by is_taken all))) lists
    ∙ ap (λ n. with_places_and_next (pool_view c past) (map (place_view c (Stopped cause ∷ past)) (numbers_below (places c))) (next + numbers_for c.reuse n)) (counted (places c))
  where
    counted : (n : ℕ) → count_by is_taken (map (place_view c past) (numbers_below n)) ≡ held_below n past
    counted n = count_each is_taken (λ q. is_some (holder q past)) (place_view c past) 0 n (λ q. taken_same past (holder q past))

    before : (p : ℕ) → p < places c → count_by is_taken (take p (map (place_view c past) (numbers_below (places c)))) ≡ held_below p past
    before p b = ap (count_by is_taken) (take_each (place_view c past) 0 (places c) p (omega arith)) ∙ counted p

    at : (p : ℕ) → p < places c
        → clear_place c.reuse (number_in_order (map (place_view c past) (numbers_below (places c))) (next_container c past) p) (place_view c past p) ≡ place_view c (Stopped cause ∷ past) p
    at p b =
        ap (λ n. clear_place c.reuse (next_container c past + n) (place_view c past p)) (before p b)
        ∙ cleared_at c.reuse (next_container c past + held_below p past) (container_of c p past) past (holder p past)
