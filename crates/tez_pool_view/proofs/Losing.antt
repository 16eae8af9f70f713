-- What the loss of a node makes of the view.
use Rattle.std.specs.Prelude.{◌≡◌, ℕ, zero, suc, ◌+◌, ◌*◌, ◌/◌, ◌%◌, nat_le, nat_lt, ◌<◌, ◌≤◌, ◌⊎◌, Bool, true, false, ◌&&◌, ◌==◌, if◌then◌else◌, List, [], ◌∷◌, map, Option, Some, None, refl}
use Rattle.std.proofs.Math.Nat.{div-add-mod, mod-lt}
use Rattle.std.proofs.Common.{mul_comm, mul-suc, mul-le-mul_left, inl, inr, ap, sym, ◌∙◌, arith, subst}
use Rattle.std.proofs.lemmas.Bool.Decides.{nat_tests}
use Rattle.tez_ids.specs.declared.TaskId.{TaskId}
use Rattle.tez_ids.specs.declared.AttemptId.{AttemptId}
use Rattle.tez_ids.specs.Same.{same_attempt}
use Rattle.tez_lists.specs.Numbers.{numbers_from}
use Rattle.tez_lists.specs.Tables.{each_from}
use Rattle.tez_lists.proofs.Tables.{map_below, each_each}
use Rattle.tez_plan.specs.Dag.{Dag}
use Rattle.tez_conf.specs.declared.values.ConfValues.{ConfValues}
use Rattle.tez_events.specs.declared.Entry.TheVariants.{Queued, Killed, NodeLost}
use Rattle.tez_events.specs.declared.KillCause.TheVariants.{Node}
use Rattle.tez_history.specs.Shape.{numbers_below, places}
use Rattle.tez_history.specs.History.{Past, InQueue, Ended, stage, holder, freed, container_of, next_container, life, extend}
use Rattle.tez_history.specs.Derived.{is_processing, next_attempt, places_on}
use Rattle.tez_history.specs.Steps.{killed_by_node, kill_at, each_after, requeue, node_kills}
use Rattle.tez_history.specs.Follows.{IsMade, IsOpen, IsPlaced}
use Rattle.tez_laws.specs.Laws.{place_in}
use Rattle.tez_laws.proofs.Same.{same_attempt-true, same_attempt-refl}
use Rattle.tez_laws.proofs.Places.{held, fresh, placed_known, in_place}
use Rattle.tez_laws.proofs.StepLaw.{made-extend, kill_may}
use Rattle.tez_laws.proofs.Going.{extend-append}
use Rattle.tez_pool.specs.declared.place.Place.{Place}
use Rattle.tez_pool.specs.State.{PoolState}
use Rattle.tez_pool.specs.Table.{free, lose_place, lose_life, after_loss}
use Rattle.tez_pool_view.specs.View.{held_by, place_view, pool_view}
use Rattle.tez_pool_view.proofs.Holding.{held_same, place_with}

lost_life : (x : Bool) (s slot : ℕ) (past : Past) → (slot == s) ≡ x → (if x then suc (life s past) else life s past) ≡ (if x then suc (life slot past) else life s past)
lost_life true s slot past e = let same : slot ≡ s = grind (arith, nat_tests) in ap (λ n. suc (life n past)) (sym same)
lost_life false s slot past e = refl

-- who holds the place, unless it is one of these
abbrev pub unless : Bool → Option AttemptId → Option AttemptId
unless true o = None
unless false o = o

abbrev pub is_one : ℕ → List ℕ → Bool
is_one q [] = false
is_one q (p ∷ ps) = if p == q then true else is_one q ps

-- the kills of a node: what each fact that the pool goes by is afterwards
pub record KilledAt (c : ConfValues) (past later : Past) (ps : List ℕ) : Type 0 where
  pub holders : (q : ℕ) → holder q later ≡ unless (is_one q ps) (holder q past)
  pub stages : (q : ℕ) (b : AttemptId) → holder q later ≡ Some b → is_processing (stage b later) ≡ is_processing (stage b past)
  pub containers : (q : ℕ) → container_of c q later ≡ container_of c q past
  pub next : next_container c later ≡ next_container c past
  pub lives : (s : ℕ) → life s later ≡ life s past

unequal : (p q : ℕ) → p ≡ q → (p == q) ≡ false → ⊥
unequal p q h k = grind (arith, nat_tests)

apart : (g : Dag) (c : ConfValues) (past : Past) (p q : ℕ) (a b : AttemptId) → IsMade g c past → holder p past ≡ Some a → holder q past ≡ Some b → (p == q) ≡ false → same_attempt a b ≡ false
apart g c past p q a b m h k e = by (same_attempt a b) refl where
  by : (x : Bool) → same_attempt a b ≡ x → same_attempt a b ≡ false
  by true s =
      let one : place_in (stage a past) ≡ Some p = held g c past m p a h in
      let two : place_in (stage a past) ≡ Some q = subst (λ y. place_in (stage y past) ≡ Some q) (sym (same_attempt-true a b s)) (held g c past m q b k) in
      let same : p ≡ q = cc in
      absurd (unequal p q same e)
  by false s = s

was_held : (a b : AttemptId) (o : Option AttemptId) → freed a o ≡ Some b → (o ≡ Some b) × (same_attempt a b ≡ false)
was_held a b None h = cc
was_held a b (Some x) h = by (same_attempt a x) refl h where
  by : (y : Bool) → same_attempt a x ≡ y → (if y then None else Some x) ≡ Some b → (Some x ≡ Some b) × (same_attempt a b ≡ false)
  by true e k = cc
  by false e k = let same : x ≡ b = cc in (k, subst (λ z. same_attempt a z ≡ false) same e)

not_next : (g : Dag) (c : ConfValues) (past : Past) (q : ℕ) (b : AttemptId) (t : TaskId) → IsMade g c past → holder q past ≡ Some b → same_attempt (next_attempt past t) b ≡ false
not_next g c past q b t m h = by (same_attempt (next_attempt past t) b) refl where
  by : (x : Bool) → same_attempt (next_attempt past t) b ≡ x → same_attempt (next_attempt past t) b ≡ false
  by true s = absurd (fresh g c past m t (placed_known (stage (next_attempt past t) past)
      (subst (λ y. IsPlaced (stage y past)) (sym (same_attempt-true (next_attempt past t) b s)) (in_place (stage b past) q (held g c past m q b h)))))
  by false s = s

freed_at : (g : Dag) (c : ConfValues) (past : Past) (p q : ℕ) (a : AttemptId) → IsMade g c past → holder p past ≡ Some a → (o : Option AttemptId) → holder q past ≡ o
    → (x : Bool) → (p == q) ≡ x → freed a o ≡ unless (if x then true else false) o
freed_at g c past p q a m h None e true k = refl
freed_at g c past p q a m h None e false k = refl
freed_at g c past p q a m h (Some b) e true k =
    let same : p ≡ q = grind (arith, nat_tests) in
    let is : Some a ≡ Some b = sym h ∙ ap (λ n. holder n past) same ∙ e in
    let ab : a ≡ b = cc in
    ap (λ y. freed y (Some b)) ab ∙ ap (λ y. if y then None else Some b) (same_attempt-refl b)
freed_at g c past p q a m h (Some b) e false k = ap (λ y. if y then None else Some b) (apart g c past p q a b m h e k)

one_kill : (g : Dag) (c : ConfValues) (past : Past) (p : ℕ) (a : AttemptId) → IsMade g c past → holder p past ≡ Some a
    → KilledAt c past (Queued (next_attempt past a.task) ∷ Killed a Node ∷ past) (p ∷ [])
one_kill g c past p a m h = record {
  holders = λ q. freed_at g c past p q a m h (holder q past) refl (p == q) refl;
  stages = λ q b e. staged q b (was_held a b (holder q past) e);
  containers = λ q. refl;
  next = refl;
  lives = λ s. refl;
} where
  staged : (q : ℕ) (b : AttemptId) → (holder q past ≡ Some b) × (same_attempt a b ≡ false)
      → is_processing (if same_attempt (next_attempt past a.task) b then InQueue else (if same_attempt a b then Ended else stage b past)) ≡ is_processing (stage b past)
  staged q b e = rw (not_next g c past q b a.task m e.0, e.1) refl

nobody : (x : Bool) (o : Option AttemptId) → (x ≡ true → o ≡ None) → o ≡ unless (if x then true else false) o
nobody true o h = h refl
nobody false o h = refl

no_kill : (c : ConfValues) (past : Past) (p : ℕ) → holder p past ≡ None → KilledAt c past past (p ∷ [])
no_kill c past p h = record {
  holders = λ q. nobody (p == q) (holder q past) (λ e. ap (λ n. holder n past) (sym (tests p q e)) ∙ h);
  stages = λ q b e. refl;
  containers = λ q. refl;
  next = refl;
  lives = λ s. refl;
} where
  tests : (p q : ℕ) → (p == q) ≡ true → p ≡ q
  tests p q e = grind (arith, nat_tests)

kill_one : (g : Dag) (c : ConfValues) (past : Past) (p : ℕ) (o : Option AttemptId) → IsMade g c past → holder p past ≡ o → KilledAt c past (extend past (killed_by_node past o)) (p ∷ [])
kill_one g c past p None m h = no_kill c past p h
kill_one g c past p (Some a) m h = one_kill g c past p a m h

made_kill : (g : Dag) (c : ConfValues) (past : Past) (p : ℕ) (o : Option AttemptId) → IsMade g c past → holder p past ≡ o → IsMade g c (extend past (killed_by_node past o))
made_kill g c past p None m h = m
made_kill g c past p (Some a) m h =
    made-extend g c past (Killed a Node ∷ requeue past a.task) m (kill_may g c past a Node m (in_place (stage a past) p (held g c past m p a h)))

unless_twice : (x y : Bool) (o : Option AttemptId) → unless y (unless (if x then true else false) o) ≡ unless (if x then true else y) o
unless_twice true true o = refl
unless_twice true false o = refl
unless_twice false true o = refl
unless_twice false false o = refl

unless_some : (x : Bool) (o : Option AttemptId) (b : AttemptId) → unless x o ≡ Some b → o ≡ Some b
unless_some true o b h = cc
unless_some false o b h = h

both_kills : (c : ConfValues) (past mid later : Past) (p : ℕ) (ps : List ℕ) → KilledAt c past mid (p ∷ []) → KilledAt c mid later ps → KilledAt c past later (p ∷ ps)
both_kills c past mid later p ps k l = record {
  holders = λ q. l.holders q ∙ ap (unless (is_one q ps)) (k.holders q) ∙ unless_twice (p == q) (is_one q ps) (holder q past);
  stages = λ q b e. l.stages q b e ∙ k.stages q b (unless_some (is_one q ps) (holder q mid) b (sym (l.holders q) ∙ e));
  containers = λ q. l.containers q ∙ k.containers q;
  next = l.next ∙ k.next;
  lives = λ s. l.lives s ∙ k.lives s;
}

pub kills : (g : Dag) (c : ConfValues) (past : Past) (ps : List ℕ) → IsMade g c past → KilledAt c past (extend past (each_after kill_at past ps)) ps
kills g c past [] m = record { holders = λ q. refl; stages = λ q b e. refl; containers = λ q. refl; next = refl; lives = λ s. refl }
kills g c past (p ∷ ps) m =
    let first = kill_one g c past p (holder p past) m refl in
    let mid = extend past (kill_at past p) in
    let rest = kills g c mid ps (made_kill g c past p (holder p past) m refl) in
    subst (λ y. KilledAt c past y (p ∷ ps)) (sym (extend-append past (kill_at past p) (each_after kill_at mid ps)))
    (both_kills c past mid (extend mid (each_after kill_at mid ps)) p ps first rest)

-- where nobody holds a place, there is nobody to kill
idle_at : (x : Bool) (o : Option AttemptId) → o ≡ None → o ≡ unless x o
idle_at true o h = h
idle_at false o h = refl

pub no_kills : (c : ConfValues) (past : Past) (ps : List ℕ) → ((p : ℕ) → holder p past ≡ None) → KilledAt c past past ps
no_kills c past ps none = record { holders = λ q. idle_at (is_one q ps) (holder q past) (none q); stages = λ q b e. refl; containers = λ q. refl; next = refl; lives = λ s. refl }

-- ---- the places of a slot

one_of : (q n k : ℕ) → is_one q (numbers_from n k) ≡ (nat_le n q && nat_lt q (n + k))
one_of q n zero = outside q n where
  outside : (q n : ℕ) → false ≡ (nat_le n q && nat_lt q (n + 0))
  outside q n = grind (arith, nat_tests)
one_of q n (suc k) = ap (λ x. if n == q then true else x) (one_of q (suc n) k) ∙ inside q n k where
  inside : (q n k : ℕ) → (if n == q then true else (nat_le (suc n) q && nat_lt q (suc n + k))) ≡ (nat_le n q && nat_lt q (n + suc k))
  inside q n k = grind (arith, nat_tests)

compare_cases : (a b : ℕ) → (suc a ≤ b) ⊎ ((a ≡ b) ⊎ (suc b ≤ a))
compare_cases zero zero = inr (inl refl)
compare_cases zero (suc b) = inl (omega arith)
compare_cases (suc a) zero = inr (inr (omega arith))
compare_cases (suc a) (suc b) = up (compare_cases a b) where
  up : (suc a ≤ b) ⊎ ((a ≡ b) ⊎ (suc b ≤ a)) → (suc (suc a) ≤ suc b) ⊎ ((suc a ≡ suc b) ⊎ (suc (suc b) ≤ suc a))
  up (inl h) = inl (omega arith)
  up (inr (inl h)) = inr (inl (ap suc h))
  up (inr (inr h)) = inr (inr (omega arith))

more_rows : (a b k : ℕ) → suc a ≤ b → k * a + k ≤ b * k
more_rows a b k h = let m : k * suc a ≤ k * b = mul-le-mul_left k h in rw (mul_comm b k) (rw mul-suc at m)

row_of : (q slot k d r : ℕ) → k * d + r ≡ q → r < k → (nat_le (slot * k) q && nat_lt q (slot * k + k)) ≡ (d == slot)
row_of q slot k d r e l = by (compare_cases d slot) where
  by : ((suc d ≤ slot) ⊎ ((d ≡ slot) ⊎ (suc slot ≤ d))) → (nat_le (slot * k) q && nat_lt q (slot * k + k)) ≡ (d == slot)
  by (inl x) = let m = more_rows d slot k x in grind (arith, nat_tests)
  by (inr (inl x)) = let m : k * d ≡ slot * k = ap (λ n. k * n) x ∙ mul_comm k slot in grind (arith, nat_tests)
  by (inr (inr x)) = let m : k * slot + k ≤ d * k = more_rows slot d k x in let n : slot * k ≡ k * slot = mul_comm slot k in let o : k * d ≡ d * k = mul_comm k d in grind (arith, nat_tests)

on_slot : (q slot k : ℕ) → 0 < k → (nat_le (slot * k) q && nat_lt q (slot * k + k)) ≡ (q / k == slot)
on_slot q slot k h = row_of q slot k (q / k) (q % k) (div-add-mod q k) (mod-lt q h)

-- a place that is there is on a node with places
some_on : (n k q : ℕ) → q < n * k → 0 < k
some_on n zero q h = absurd (omega arith)
some_on n (suc k) q h = omega arith

lost_place : (x : Bool) (past later : Past) (o now : Option AttemptId) (n k : ℕ) → now ≡ unless x o → ((b : AttemptId) → now ≡ Some b → is_processing (stage b later) ≡ is_processing (stage b past))
    → (if x then free n else place_with k (held_by past o)) ≡ place_with (if x then n else k) (held_by later now)
lost_place true past later o now n k h s = ap (λ y. place_with n (held_by later y)) (sym h)
lost_place false past later o now n k h s =
    ap (place_with k) (sym (held_same past later o (λ b e. s b (h ∙ e)))) ∙ ap (λ y. place_with k (held_by later y)) (sym h)

abbrev with_all : PoolState → List Place → List ℕ → ℕ → PoolState
with_all s ps ls n = record s { places = ps; lives = ls; next = n }

-- the history after a node was lost
abbrev pub lost_at : Past → ℕ → Past
lost_at past slot = NodeLost slot (suc (life slot past)) ∷ past

pub view_lost : (c : ConfValues) (past later : Past) (slot : ℕ) → KilledAt c (lost_at past slot) later (places_on c slot) → after_loss (pool_view c past) slot ≡ pool_view c later
view_lost c past later slot k =
    let ps : each_from 0 (lose_place c.per_node slot (next_container c past)) (map (place_view c past) (numbers_below (places c))) ≡ map (place_view c later) (numbers_below (places c)) =
    each_each (lose_place c.per_node slot (next_container c past)) (place_view c past) 0 (places c)
    ∙ map_below (λ q. lose_place c.per_node slot (next_container c past) q (place_view c past q)) (place_view c later) 0 (places c) (λ q _ b. at q (some_on c.nodes c.per_node q (omega arith))) in
    let ls : each_from 0 (lose_life slot) (map (λ s. life s past) (numbers_below c.nodes)) ≡ map (λ s. life s later) (numbers_below c.nodes) =
    each_each (lose_life slot) (λ s. life s past) 0 c.nodes
    ∙ map_below (λ s. lose_life slot s (life s past)) (λ s. life s later) 0 c.nodes (λ s _ _. lost_life (slot == s) s slot past refl ∙ sym (k.lives s)) in
    ap (λ x. with_all (pool_view c past) x (each_from 0 (lose_life slot) (map (λ s. life s past) (numbers_below c.nodes))) (next_container c past + c.per_node)) ps
    ∙ ap (λ x. with_all (pool_view c past) (map (place_view c later) (numbers_below (places c))) x (next_container c past + c.per_node)) ls
    ∙ ap (λ n. with_all (pool_view c past) (map (place_view c later) (numbers_below (places c))) (map (λ s. life s later) (numbers_below c.nodes)) n) (sym k.next)
  where
    at : (q : ℕ) → 0 < c.per_node → lose_place c.per_node slot (next_container c past) q (place_view c past q) ≡ place_view c later q
    at q some =
        let where_is : is_one q (places_on c slot) ≡ (q / c.per_node == slot) = one_of q (slot * c.per_node) c.per_node ∙ on_slot q slot c.per_node some in
        let now : holder q later ≡ unless (q / c.per_node == slot) (holder q past) = k.holders q ∙ ap (λ x. unless x (holder q past)) where_is in
        lost_place (q / c.per_node == slot) past later (holder q past) (holder q later) (next_container c past + q % c.per_node) (container_of c q past) now (λ b e. k.stages q b e)
        ∙ ap (λ n. place_with n (held_by later (holder q later))) (sym (k.containers q))

pub view_killed : (g : Dag) (c : ConfValues) (past : Past) (slot : ℕ) → slot < c.nodes → IsOpen past → IsMade g c past
    → after_loss (pool_view c past) slot ≡ pool_view c (extend (lost_at past slot) (node_kills c (lost_at past slot) slot))
view_killed g c past slot there o m =
    view_lost c past (extend (lost_at past slot) (node_kills c (lost_at past slot) slot)) slot (kills g c (lost_at past slot) (places_on c slot) ((there, refl, o), m))

pub view_idle : (c : ConfValues) (past : Past) (slot : ℕ) → ((p : ℕ) → holder p past ≡ None) → after_loss (pool_view c past) slot ≡ pool_view c (lost_at past slot)
view_idle c past slot none = view_lost c past (lost_at past slot) slot (no_kills c (lost_at past slot) (places_on c slot) none)
