-- What the readings of a pool tell of the history.
use Rattle.std.specs.Prelude.{◌≡◌, ◌≢◌, ℕ, zero, suc, ◌+◌, ◌*◌, ◌-◌, ◌<◌, ◌≤◌, nat_lt, Bool, true, false, if◌then◌else◌, List, [], ◌∷◌, map, length, take, drop, position, slice_get, Option, Some, None, is_none, refl, option_and_then}
use Rattle.std.specs.List.{find, filter_map, cons_option, position_or_len}
use Rattle.std.specs.Option.{option_map, option_map_or}
use Rattle.std.proofs.Common.{ap, sym, ◌∙◌, subst, arith, zero-add, add-zero, true≢false, mul-le-mul_left, mul_comm, mul-suc}
use Rattle.std.proofs.lemmas.Bool.Decides.{nat_tests}
use Rattle.std.proofs.lemmas.List.Folds.{find_at}
use Rattle.std.proofs.lemmas.Option.{same_Some}
use Rattle.tez_ids.specs.declared.AttemptId.{AttemptId}
use Rattle.tez_ids.specs.declared.ContainerId.{ContainerId}
use Rattle.tez_lists.specs.Numbers.{numbers_from}
use Rattle.tez_lists.proofs.Tables.{get_each}
use Rattle.tez_plan.specs.Dag.{Dag}
use Rattle.tez_conf.specs.declared.values.ConfValues.{ConfValues}
use Rattle.tez_events.specs.declared.CoreEvent.TheVariants.{Place as GivePlace}
use Rattle.tez_history.specs.Shape.{numbers_below, places, is_vertex}
use Rattle.tez_history.specs.History.{Past, Stage, Unknown, InQueue, Waits, Runs, Ended, stage, holder, container_of, life}
use Rattle.tez_history.specs.Derived.{is_queued, is_processing, is_free as free_in, places_on, is_configured}
use Rattle.tez_history.specs.Steps.{enabled, is_running}
use Rattle.tez_history.specs.Follows.{IsMade}
use Rattle.tez_laws.specs.Laws.{place_in}
use Rattle.tez_laws.proofs.OneLive.{one_live, placed_alive}
use Rattle.tez_laws.proofs.Same.{same_attempt-true, same_attempt-refl}
use Rattle.tez_laws.proofs.Places.{held, stands, in_place}
use Rattle.tez_laws.proofs.Ranges.{live_scheduled, scheduled_is_task, configured_is_vertex}
use Rattle.tez_laws.proofs.StepLaw.{both}
use Rattle.tez_pool.specs.declared.place.Place.{Place}
use Rattle.tez_pool.specs.Table.{who, holds, is_by, is_free, is_sent, sent_at, place_of, place_held, container_given, held_on}
use Rattle.tez_pool.specs.Index.{held_at}
use Rattle.tez_pool.specs.Victim.{AreIn}
use Rattle.tez_pool_view.specs.View.{held_by, place_view, pool_view, standing}

-- ---- lists by number

inside : {X : Type 0} (xs : List X) (i : ℕ) (x : X) → slice_get xs i ≡ Some x → i < length xs
inside [] i x e = cc
inside (y ∷ ys) zero x e = omega arith
inside (y ∷ ys) (suc i) x e = let l = inside ys i x e in omega arith

length_numbers : {Y : Type 0} (f : ℕ → Y) (a n : ℕ) → length (map f (numbers_from a n)) ≡ n
length_numbers f a zero = refl
length_numbers f a (suc n) = ap suc (length_numbers f (suc a) n)

position_map : {X Y : Type 0} (t : Y → Bool) (f : X → Y) (xs : List X) → position t (map f xs) ≡ position (λ x. t (f x)) xs
position_map t f xs = grind (arith, prefix_of_map, length_of_map) where
  prefix_of_map : {X Y : Type 0} (t : Y → Bool) (f : X → Y) (xs : List X) → position_or_len t (map f xs) ≡ position_or_len (λ x. t (f x)) xs
  prefix_of_map t f [] = refl
  prefix_of_map t f (x ∷ xs) = let rest = prefix_of_map t f xs in grind arith

  length_of_map : {X Y : Type 0} (f : X → Y) (xs : List X) → length (map f xs) ≡ length xs
  length_of_map f [] = refl
  length_of_map f (x ∷ xs) = ap suc (length_of_map f xs)

-- ---- the places by number

pub view_get : (c : ConfValues) (past : Past) (p : ℕ) → p < places c → slice_get (pool_view c past).places p ≡ Some (place_view c past p)
view_get c past p b = get_each (place_view c past) 0 (places c) p b ∙ ap (λ q. Some (place_view c past q)) (zero-add p)

pub view_got : (c : ConfValues) (past : Past) (p : ℕ) (x : Place) → slice_get (pool_view c past).places p ≡ Some x → (p < places c) × (x ≡ place_view c past p)
view_got c past p x h =
    let l : p < length (pool_view c past).places = inside (pool_view c past).places p x h in
    let b : p < places c = subst (λ n. p < n) (length_numbers (place_view c past) 0 (places c)) l in
    (b, same_Some x (place_view c past p) (sym h ∙ view_get c past p b))

pub who_held : (past : Past) (k : ℕ) (o : Option AttemptId) → who (record { holder = held_by past o; container = record { 0 = k } }) ≡ o
who_held past k None = refl
who_held past k (Some a) = refl

pub read_container : (c : ConfValues) (past : Past) (p : ℕ) → p < places c → option_map (λ x. x.container) (slice_get (pool_view c past).places p) ≡ Some (record { 0 = container_of c p past })
read_container c past p b = ap (option_map (λ x. x.container)) (view_get c past p b)

pub read_holder : (c : ConfValues) (past : Past) (p : ℕ) → p < places c → option_map who (slice_get (pool_view c past).places p) ≡ Some (holder p past)
read_holder c past p b = ap (option_map who) (view_get c past p b) ∙ ap Some (who_held past (container_of c p past) (holder p past))

pub read_life : (c : ConfValues) (past : Past) (slot : ℕ) → slot < c.nodes → slice_get (pool_view c past).lives slot ≡ Some (life slot past)
read_life c past slot b = get_each (λ s. life s past) 0 c.nodes slot b ∙ ap (λ s. Some (life s past)) (zero-add slot)

-- ---- the first free place

none_below : (k : ℕ) → nat_lt k 0 ≡ false
none_below k = grind (arith, nat_tests)

first_below : (n : ℕ) → nat_lt 0 (suc n) ≡ true
first_below n = grind (arith, nat_tests)

next_below : (k n : ℕ) → nat_lt (suc k) (suc n) ≡ nat_lt k n
next_below k n = grind (arith, nat_tests)

if_there : ℕ → Bool → Option ℕ
if_there k b = if b then Some k else None

get_numbers : (a n k : ℕ) → slice_get (numbers_from a n) k ≡ if_there (a + k) (nat_lt k n)
unfolding if_there
get_numbers a zero k = sym (ap (if_there (a + k)) (none_below k))
get_numbers a (suc n) zero = ap Some (sym (add-zero a)) ∙ sym (ap (if_there (a + 0)) (first_below n))
get_numbers a (suc n) (suc k) = let next : suc a + k ≡ a + suc k = omega arith in get_numbers (suc a) n k ∙ ap (λ m. if_there m (nat_lt k n)) next ∙ sym (ap (if_there (a + suc k)) (next_below k n))

long : (a n : ℕ) → length (numbers_from a n) ≡ n
long a zero = refl
long a (suc n) = ap suc (long (suc a) n)

find_place : (t : ℕ → Bool) (n : ℕ) → find t (numbers_below n) ≡ position t (numbers_below n)
unfolding if_there
find_place t n =
    let k = position_or_len t (numbers_below n) in
    find_at t (numbers_below n) ∙ get_numbers 0 n k ∙ ap (λ m. if_there m (nat_lt k n)) (zero-add k) ∙ ap (λ m. if_there k (nat_lt k m)) (sym (long 0 n))

free_same : (past : Past) (k : ℕ) (o : Option AttemptId) → is_free (record { holder = held_by past o; container = record { 0 = k } }) ≡ is_none o
free_same past k None = refl
free_same past k (Some a) = refl

find_same : (t s : ℕ → Bool) (xs : List ℕ) → ((q : ℕ) → t q ≡ s q) → find t xs ≡ find s xs
find_same t s [] e = refl
find_same t s (x ∷ xs) e = ap (λ b. if b then Some x else find t xs) (e x) ∙ ap (λ o. if s x then Some x else o) (find_same t s xs e)

-- the first place that passes, by number
place_found : (t : Place → Bool) (c : ConfValues) (past : Past) → position t (pool_view c past).places ≡ find (λ p. t (place_view c past p)) (numbers_below (places c))
place_found t c past = position_map t (place_view c past) (numbers_below (places c)) ∙ sym (find_place (λ p. t (place_view c past p)) (places c))

pub first_free : (c : ConfValues) (past : Past) → position is_free (pool_view c past).places ≡ find (free_in past) (numbers_below (places c))
first_free c past =
    place_found is_free c past ∙ find_same (λ p. is_free (place_view c past p)) (free_in past) (numbers_below (places c)) (λ p. free_same past (container_of c p past) (holder p past))

suc_up : (a p : ℕ) → a ≤ p → a ≢ p → suc a ≤ p
suc_up a p l ne = omega arith

find_one : (t : ℕ → Bool) (a n p : ℕ) → a ≤ p → p < a + n → t p ≡ true → ((q : ℕ) → t q ≡ true → q ≡ p) → find t (numbers_from a n) ≡ Some p
find_one t a zero p l b h one = absurd (omega arith)
find_one t a (suc n) p l b h one = by (λ u w. find_one t (suc a) n p u w h one) (t a) refl where
  by : (suc a ≤ p → p < suc a + n → find t (numbers_from (suc a) n) ≡ Some p) → (x : Bool) → t a ≡ x → (if x then Some a else find t (numbers_from (suc a) n)) ≡ Some p
  by rest true e = ap Some (one a e)
  by rest false e =
      let apart : a ≢ p = λ s. true≢false (sym h ∙ ap t (sym s) ∙ e) in
      rest (suc_up a p l apart) (omega arith)

find_nowhere : (t : ℕ → Bool) (xs : List ℕ) → ((q : ℕ) → t q ≡ false) → find t xs ≡ None
find_nowhere t [] h = refl
find_nowhere t (x ∷ xs) h = ap (λ b. if b then Some x else find t xs) (h x) ∙ find_nowhere t xs h

-- ---- the place of an attempt

by_holder : (past : Past) (a : AttemptId) (o : Option AttemptId) → is_by a (held_by past o) ≡ true → o ≡ Some a
by_holder past a None h = cc
by_holder past a (Some b) h = ap Some (sym (same_attempt-true a b h))

holds_holder : (past : Past) (a : AttemptId) (o : Option AttemptId) → o ≡ Some a → is_by a (held_by past o) ≡ true
holds_holder past a o e = subst (λ x. is_by a (held_by past x) ≡ true) (sym e) (same_attempt-refl a)

-- who holds place q stands there
held_stands : (g : Dag) (c : ConfValues) (past : Past) (a : AttemptId) (q : ℕ) → IsMade g c past → holds a (place_view c past q) ≡ true → place_in (stage a past) ≡ Some q
held_stands g c past a q m t = held g c past m q a (by_holder past a (holder q past) t)

sent_is : (past : Past) (k : ℕ) (o : Option AttemptId) (a : AttemptId) → o ≡ Some a → is_sent (record { holder = held_by past o; container = record { 0 = k } }) ≡ is_processing (stage a past)
sent_is past k o a e = ap (λ x. is_sent (record { holder = held_by past x; container = record { 0 = k } })) e

placed_at : (g : Dag) (c : ConfValues) (past : Past) (a : AttemptId) (p : ℕ) → IsMade g c past → place_in (stage a past) ≡ Some p → place_of (pool_view c past).places a ≡ Some (p, is_processing (stage a past))
placed_at g c past a p m at =
    let s = stands g c past m p a at in
    let there = view_get c past p s.1 in
    let found : place_held (pool_view c past).places a ≡ Some p =
    place_found (holds a) c past
    ∙ find_one (λ q. holds a (place_view c past q)) 0 (places c) p (omega arith) (omega (arith, s.1)) (holds_holder past a (holder p past) s.0)
    (λ q t. same_Some q p (sym (held_stands g c past a q m t) ∙ at)) in
    let was : sent_at (pool_view c past).places p ≡ is_processing (stage a past) =
    ap (λ o. option_map_or is_sent o false) there ∙ sent_is past (container_of c p past) (holder p past) a s.0 in
    ap (option_map (λ q. (q, sent_at (pool_view c past).places q))) found ∙ ap (λ b. Some (p, b)) was

pub unheld : (g : Dag) (c : ConfValues) (past : Past) (a : AttemptId) → IsMade g c past → place_in (stage a past) ≡ None → place_held (pool_view c past).places a ≡ None
unheld g c past a m at = place_found (holds a) c past ∙ find_nowhere (λ q. holds a (place_view c past q)) (numbers_below (places c)) (λ q. by q (holds a (place_view c past q)) refl) where
  by : (q : ℕ) (b : Bool) → holds a (place_view c past q) ≡ b → holds a (place_view c past q) ≡ false
  by q true t = let never_so : None ≡ Some q = sym at ∙ held_stands g c past a q m t in cc
  by q false t = t

nowhere : (g : Dag) (c : ConfValues) (past : Past) (a : AttemptId) → IsMade g c past → place_in (stage a past) ≡ None → place_of (pool_view c past).places a ≡ None
nowhere g c past a m at = ap (option_map (λ q. (q, sent_at (pool_view c past).places q))) (unheld g c past a m at)

queued_nowhere : (s : Stage) → is_queued s ≡ true → place_in s ≡ None
queued_nowhere InQueue h = refl
queued_nowhere Unknown h = refl
queued_nowhere (Waits p) h = cc
queued_nowhere (Runs p) h = cc
queued_nowhere Ended h = refl

pub queued_unheld : (g : Dag) (c : ConfValues) (past : Past) (a : AttemptId) (p : ℕ) → IsMade g c past → enabled g c past (GivePlace a p) ≡ true → place_held (pool_view c past).places a ≡ None
queued_unheld g c past a p m h = unheld g c past a m (queued_nowhere (stage a past) (both {x = is_queued (stage a past)} (both {x = is_running past} h).1).0)

abbrev container : ℕ → ContainerId
container k = record { 0 = k }

free_given : (k : ℕ) (past : Past) (o : Option AttemptId) → is_none o ≡ true → (if is_none (held_by past o) then Some (container k) else None) ≡ Some (container k)
free_given k past None h = refl
free_given k past (Some a) h = cc

pub given : (g : Dag) (c : ConfValues) (past : Past) (a : AttemptId) (p : ℕ) → enabled g c past (GivePlace a p) ≡ true → container_given (pool_view c past).places p ≡ Some (record { 0 = container_of c p past })
given g c past a p h =
    let k = both {x = nat_lt p (places c)} (both {x = is_queued (stage a past)} (both {x = is_running past} h).1).1 in
    ap (option_and_then (λ x. if is_free x then Some x.container else None)) (view_get c past p (below p (places c) k.0)) ∙ free_given (container_of c p past) past (holder p past) k.1
  where
    below : (i n : ℕ) → nat_lt i n ≡ true → i < n
    below i n e = grind (arith, nat_tests)

standing_at : (g : Dag) (c : ConfValues) (past : Past) (a : AttemptId) → IsMade g c past → (s : Stage) → stage a past ≡ s → place_of (pool_view c past).places a ≡ standing s
standing_at g c past a m Unknown e = nowhere g c past a m (ap place_in e)
standing_at g c past a m InQueue e = nowhere g c past a m (ap place_in e)
standing_at g c past a m (Waits p) e = placed_at g c past a p m (ap place_in e) ∙ ap (λ s. Some (p, is_processing s)) e
standing_at g c past a m (Runs p) e = placed_at g c past a p m (ap place_in e) ∙ ap (λ s. Some (p, is_processing s)) e
standing_at g c past a m Ended e = nowhere g c past a m (ap place_in e)

pub read_place : (g : Dag) (c : ConfValues) (past : Past) (a : AttemptId) → IsMade g c past → place_of (pool_view c past).places a ≡ standing (stage a past)
read_place g c past a m = standing_at g c past a m (stage a past) refl

-- ---- who holds the places of a node

take_each : {X : Type 0} (f : ℕ → X) (a n p : ℕ) → p ≤ n → take p (map f (numbers_from a n)) ≡ map f (numbers_from a p)
take_each f a n zero h = refl
take_each f a zero (suc p) h = absurd (omega arith)
take_each f a (suc n) (suc p) h = ap (λ xs. f a ∷ xs) (take_each f (suc a) n p (omega arith))

same_part : {X : Type 0} (f : ℕ → X) (x y k l : ℕ) → x ≡ y → k ≡ l → map f (numbers_from x k) ≡ map f (numbers_from y l)
same_part f x y k l e d = ap (λ z. map f (numbers_from z k)) e ∙ ap (λ z. map f (numbers_from y z)) d

drop_each : {X : Type 0} (f : ℕ → X) (a n p : ℕ) → p ≤ n → drop p (map f (numbers_from a n)) ≡ map f (numbers_from (a + p) (n - p))
drop_each f a n zero h = same_part f a (a + 0) n (n - 0) (omega arith) (omega arith)
drop_each f a zero (suc p) h = absurd (omega arith)
drop_each f a (suc n) (suc p) h = drop_each f (suc a) n p (omega arith) ∙ same_part f (suc a + p) (a + suc p) (n - p) (suc n - suc p) (omega arith) (omega arith)

filter_each : {X Y : Type 0} (h : X → Option Y) (s : ℕ → Option Y) (f : ℕ → X) (a n : ℕ) → ((q : ℕ) → h (f q) ≡ s q) → filter_map h (map f (numbers_from a n)) ≡ filter_map s (numbers_from a n)
filter_each h s f a zero e = refl
filter_each h s f a (suc n) e =
    ap (λ o. cons_option o (filter_map h (map f (numbers_from (suc a) n)))) (e a) ∙ ap (cons_option (s a)) (filter_each h s f (suc a) n e)

within : (slot n k : ℕ) → slot < n → slot * k + k ≤ n * k
within slot n k h = let m : k * suc slot ≤ k * n = mul-le-mul_left k h in rw (mul_comm slot k, mul_comm n k) (rw mul-suc at m)

pub read_node : (c : ConfValues) (past : Past) (slot : ℕ) → slot < c.nodes → held_on (pool_view c past) slot ≡ filter_map (λ p. holder p past) (places_on c slot)
read_node c past slot b =
    let k = c.per_node in
    let start = slot * k in
    let fits : start + k ≤ places c = within slot c.nodes k b in
    let those : drop start (map (place_view c past) (numbers_below (places c))) ≡ map (place_view c past) (numbers_from start (places c - start)) =
    drop_each (place_view c past) 0 (places c) start (omega arith) ∙ ap (λ x. map (place_view c past) (numbers_from x (places c - start))) (zero-add start) in
    let some : (start + k) - start ≡ k = omega arith in
    ap (λ xs. filter_map who (take ((start + k) - start) xs)) those ∙ ap (λ n. filter_map who (take n (map (place_view c past) (numbers_from start (places c - start))))) some
    ∙ ap (filter_map who) (take_each (place_view c past) start (places c - start) k (omega arith))
    ∙ filter_each who (λ p. holder p past) (place_view c past) start k (λ q. who_held past (container_of c q past) (holder q past))

-- ---- who holds a place is of a vertex of the plan

pub held_at_view : (c : ConfValues) (past : Past) (p : ℕ) (a : AttemptId) → held_at (pool_view c past).places p ≡ Some a → holder p past ≡ Some a
held_at_view c past p a h = by (slice_get (pool_view c past).places p) refl where
  by : (o : Option Place) → slice_get (pool_view c past).places p ≡ o → holder p past ≡ Some a
  by None e = let no : None ≡ Some a = sym (ap (option_and_then who) e) ∙ h in cc
  by (Some x) e =
      let r = view_got c past p x e in
      let w : who (place_view c past p) ≡ Some a = ap who (sym r.1) ∙ sym (ap (option_and_then who) e) ∙ h in
      sym (who_held past (container_of c p past) (holder p past)) ∙ w

from_vertex : (g : Dag) (v : ℕ) → is_vertex g v ≡ true → v < length g.vertices
from_vertex g v h = grind (arith, nat_tests)

pub alive_vertex : (g : Dag) (c : ConfValues) (past : Past) (a : AttemptId) (p : ℕ) → IsMade g c past → place_in (stage a past) ≡ Some p → a.task.vertex.0 < length g.vertices
alive_vertex g c past a p m at =
    let lives = one_live g c past m a (placed_alive (stage a past) (in_place (stage a past) p at)) in
    let there = scheduled_is_task g c past m a.task (live_scheduled g c past m a.task a lives) in
    from_vertex g a.task.vertex.0 (configured_is_vertex g c past m a.task.vertex.0 (both {x = is_configured a.task.vertex.0 past} there).0)

pub are_in : (g : Dag) (c : ConfValues) (past : Past) → IsMade g c past → AreIn g (pool_view c past).places
are_in g c past m p a h = alive_vertex g c past a p m (held g c past m p a (held_at_view c past p a h))
