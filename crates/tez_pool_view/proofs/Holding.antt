-- What queueing, placing, sending and releasing an attempt make of the view.
use Rattle.std.specs.Prelude.{◌≡◌, ℕ, zero, suc, ◌+◌, Bool, true, false, not, ◌&&◌, ◌==◌, IsTrue, if◌then◌else◌, List, [], ◌∷◌, map, replicate, slice_get, slice_set, Option, Some, None, is_none, refl}
use Rattle.std.specs.List.{list_any}
use Rattle.std.proofs.Common.{ap, sym, ◌∙◌, arith, subst, zero-add}
use Rattle.std.proofs.lemmas.Bool.Decides.{nat_tests}
use Rattle.tez_ids.specs.declared.AttemptId.{AttemptId}
use Rattle.tez_ids.specs.declared.ContainerId.{ContainerId}
use Rattle.tez_ids.specs.Same.{same_attempt}
use Rattle.tez_lists.specs.Numbers.{numbers_from}
use Rattle.tez_lists.proofs.Tables.{map_below, map_each, get_each, set_each, any_each}
use Rattle.tez_plan.specs.Dag.{Dag}
use Rattle.tez_conf.specs.declared.values.ConfValues.{ConfValues}
use Rattle.tez_events.specs.declared.KillCause.TheVariants.{Preempt}
use Rattle.tez_events.specs.declared.Entry.TheVariants.{Queued, Placed, Ordered, Succeeded, Failed, Killed}
use Rattle.tez_history.specs.Shape.{numbers_below, places}
use Rattle.tez_history.specs.History.{Past, Stage, Unknown, InQueue, Waits, Runs, Ended, stage, sent, holder, freed, is_attempt, container_of, next_container, given_up, holds_place}
use Rattle.tez_history.specs.Derived.{is_processing, is_waiting, next_attempt}
use Rattle.tez_history.specs.Follows.{IsMade, MayFollow, IsPlaced}
use Rattle.tez_laws.specs.Laws.{place_in}
use Rattle.tez_laws.proofs.Same.{same_attempt-true, same_attempt-refl}
use Rattle.tez_laws.proofs.Places.{held, stands, fresh, placed_known}
use Rattle.tez_pool.specs.declared.place.Held.{Held}
use Rattle.tez_pool.specs.declared.place.Place.{Place}
use Rattle.tez_pool.specs.State.{PoolState}
use Rattle.tez_pool.specs.Table.{new_pool, free, after_place, take_place, taken, after_sent, send_place, send_held, after_release, release_place, freed_place, holds, is_by, numbers_for, is_free}
use Rattle.tez_pool_view.specs.View.{held_by, place_view, pool_view}

-- ---- at the beginning

same_lives : (n k : ℕ) → map {B = ℕ} (λ slot. 0) (numbers_from n k) ≡ replicate k 0
same_lives n zero = refl
same_lives n (suc k) = ap (λ xs. 0 ∷ xs) (same_lives (suc n) k)

pub new_view : (c : ConfValues) → pool_view c [] ≡ new_pool c.nodes c.per_node c.reuse
new_view c = ap (λ ls. let s : PoolState = record { places = map free (numbers_below (places c)); lives = ls; next = places c; per_node = c.per_node; reuse = c.reuse } in s) (same_lives 0 c.nodes)

-- ---- a place that keeps its holder

pub held_same : (past later : Past) (o : Option AttemptId) → ((b : AttemptId) → o ≡ Some b → is_processing (stage b later) ≡ is_processing (stage b past)) → held_by later o ≡ held_by past o
held_same past later None h = refl
held_same past later (Some b) h = ap (λ s. Some (record { attempt = b; sent = s })) (h b refl)

abbrev pub with_places : PoolState → List Place → PoolState
with_places s ps = record s { places = ps }

abbrev pub place_with : ℕ → Option Held → Place
place_with n h = record { holder = h; container = record { 0 = n } }

-- ---- queued

queued_keeps : (x : Bool) (s : Stage) → (x ≡ true → is_processing s ≡ false) → is_processing (if x then InQueue else s) ≡ is_processing s
queued_keeps true s h = sym (h refl)
queued_keeps false s h = refl

idle : (s : Stage) → (IsPlaced s → ⊥) → is_processing s ≡ false
idle Unknown h = refl
idle InQueue h = refl
idle (Waits p) h = refl
idle (Runs p) h = absurd (h tt)
idle Ended h = refl

pub view_queued : (g : Dag) (c : ConfValues) (past : Past) (a : AttemptId) → IsMade g c past → a ≡ next_attempt past a.task → pool_view c (Queued a ∷ past) ≡ pool_view c past
view_queued g c past a m new =
    ap (with_places (pool_view c past)) (map_below (place_view c (Queued a ∷ past)) (place_view c past) 0 (places c) (λ p _ _. at p))
  where
    is_idle : (b : AttemptId) → same_attempt a b ≡ true → is_processing (stage b past) ≡ false
    is_idle b e = idle (stage b past) (λ h. fresh g c past m a.task (placed_known (stage (next_attempt past a.task) past) (subst (λ x. IsPlaced (stage x past)) (sym (same_attempt-true a b e) ∙ new) h)))

    at : (p : ℕ) → place_view c (Queued a ∷ past) p ≡ place_view c past p
    at p = ap (place_with (container_of c p past)) (held_same past (Queued a ∷ past) (holder p past) (λ b _. queued_keeps (same_attempt a b) (stage b past) (is_idle b)))

-- ---- placed

other_stage : (a b : AttemptId) (p q : ℕ) (s t : Stage) → s ≡ InQueue → place_in t ≡ Some q → (a ≡ b → s ≡ t) → same_attempt a b ≡ false
other_stage a b p q s t e k same = by (same_attempt a b) refl where
  by : (x : Bool) → same_attempt a b ≡ x → same_attempt a b ≡ false
  by true h = let f : s ≡ t = same (same_attempt-true a b h) in let g : place_in InQueue ≡ Some q = ap place_in (sym e ∙ f) ∙ k in cc
  by false h = h

pub view_placed : (g : Dag) (c : ConfValues) (past : Past) (a : AttemptId) (k : ContainerId) (p : ℕ) → IsMade g c past → MayFollow g c past (Placed a k p)
    → after_place (pool_view c past) a p ≡ pool_view c (Placed a k p ∷ past)
view_placed g c past a k p m f =
    let got : slice_get (map (place_view c past) (numbers_below (places c))) p ≡ Some (place_view c past p) = get_each (place_view c past) 0 (places c) p f.2 ∙ ap (λ q. Some (place_view c past q)) (zero-add p) in
    let is : is_free (place_view c past p) ≡ true = ap (λ o. is_none (held_by past o)) f.1 in
    let lists : slice_set (map (place_view c past) (numbers_below (places c))) p (taken a (place_view c past p)) ≡ map (place_view c (Placed a k p ∷ past)) (numbers_below (places c)) =
    set_each (place_view c past) (taken a (place_view c past p)) 0 (places c) p
    ∙ map_below (λ q. if (0 + p) == q then taken a (place_view c past p) else place_view c past q) (place_view c (Placed a k p ∷ past)) 0 (places c) (λ q _ _. ap (λ n. if n == q then taken a (place_view c past p) else place_view c past q) (zero-add p) ∙ at q) in
    ap (take_place (pool_view c past) a p) got ∙ ap (λ b. if b then with_places (pool_view c past) (slice_set (map (place_view c past) (numbers_below (places c))) p (taken a (place_view c past p))) else pool_view c past) is
    ∙ ap (with_places (pool_view c past)) lists
  where
    own : held_by (Placed a k p ∷ past) (Some a) ≡ Some (record { attempt = a; sent = false })
    own = ap (λ x. Some (record { attempt = a; sent = is_processing (if x then Waits p else stage a past) })) (same_attempt-refl a)

    kept : (q : ℕ) → held_by (Placed a k p ∷ past) (holder q past) ≡ held_by past (holder q past)
    kept q = held_same past (Placed a k p ∷ past) (holder q past)
        (λ b h. ap (λ x. is_processing (if x then Waits p else stage b past)) (other_stage a b p q (stage a past) (stage b past) f.0 (held g c past m q b h) (λ e. ap (λ y. stage y past) e)))

    at : (q : ℕ) → (if p == q then taken a (place_view c past p) else place_view c past q) ≡ place_view c (Placed a k p ∷ past) q
    at q = by (p == q) refl where
      by : (x : Bool) → (p == q) ≡ x → (if x then taken a (place_view c past p) else place_view c past q)
          ≡ place_with (container_of c q past) (held_by (Placed a k p ∷ past) (if x then Some a else holder q past))
      by true e = let same : p ≡ q = grind (arith, nat_tests) in ap (place_with (container_of c p past)) (sym own) ∙ ap (λ n. place_with (container_of c n past) (held_by (Placed a k p ∷ past) (Some a))) same
      by false e = ap (place_with (container_of c q past)) (sym (kept q))

-- ---- sent

abbrev holder_of : AttemptId → Bool → Held
holder_of a b = record { attempt = a; sent = b }

sent_at : (x : Bool) (a : AttemptId) (s : Stage) → (x ≡ true → IsTrue (is_waiting s))
    → (if x then holder_of a true else holder_of a (is_processing s)) ≡ holder_of a (is_processing (sent x s))
sent_at true a (Waits p) h = refl
sent_at true a Unknown h = let e = h refl in cc
sent_at true a InQueue h = let e = h refl in cc
sent_at true a (Runs p) h = refl
sent_at true a Ended h = let e = h refl in cc
sent_at false a s h = refl

sent_holder : (past : Past) (a : AttemptId) (o : Option AttemptId) → IsTrue (is_waiting (stage a past)) → send_held a (held_by past o) ≡ held_by (Ordered a ∷ past) o
sent_holder past a None w = refl
sent_holder past a (Some b) w = ap Some (sent_at (same_attempt a b) b (stage b past) (λ e. subst (λ x. IsTrue (is_waiting (stage x past))) (same_attempt-true a b e) w))

pub view_sent : (c : ConfValues) (past : Past) (a : AttemptId) → IsTrue (is_waiting (stage a past)) → after_sent (pool_view c past) a ≡ pool_view c (Ordered a ∷ past)
view_sent c past a w =
    ap (with_places (pool_view c past)) (map_each (send_place a) (place_view c past) 0 (places c)
    ∙ map_below (λ p. send_place a (place_view c past p)) (place_view c (Ordered a ∷ past)) 0 (places c) (λ p _ _. ap (place_with (container_of c p past)) (sent_holder past a (holder p past) w)))

-- ---- released, by done, fail and preemption

-- the later history frees the places of a, and each gets a new number
released_at : (reuse : Bool) (n k : ℕ) (past later : Past) (a : AttemptId) (o : Option AttemptId) → ((b : AttemptId) → stage b later ≡ (if same_attempt a b then Ended else stage b past))
    → release_place reuse n a (place_with k (held_by past o)) ≡ place_with (if not reuse && is_attempt a o then n else k) (held_by later (freed a o))
released_at true n k past later a None h = refl
released_at false n k past later a None h = refl
released_at r n k past later a (Some b) h = by r (same_attempt a b) refl where
  by : (r x : Bool) → same_attempt a b ≡ x
      → (if x then freed_place r n (place_with k (Some (record { attempt = b; sent = is_processing (stage b past) }))) else place_with k (Some (record { attempt = b; sent = is_processing (stage b past) })))
      ≡ place_with (if not r && x then n else k) (held_by later (if x then None else Some b))
  by true true e = refl
  by false true e = refl
  by true false e = ap (λ s. place_with k (Some (record { attempt = b; sent = is_processing s }))) (sym (h b ∙ ap (λ x. if x then Ended else stage b past) e))
  by false false e = ap (λ s. place_with k (Some (record { attempt = b; sent = is_processing s }))) (sym (h b ∙ ap (λ x. if x then Ended else stage b past) e))

held_is : (past : Past) (o : Option AttemptId) (a : AttemptId) → o ≡ Some a → is_by a (held_by past o) ≡ true
held_is past o a e = subst (λ x. is_by a (held_by past x) ≡ true) (sym e) (same_attempt-refl a)

anyone : (g : Dag) (c : ConfValues) (past : Past) (a : AttemptId) → IsMade g c past → (s : Stage) → stage a past ≡ s → IsPlaced s
    → (list_any (holds a) (map (place_view c past) (numbers_below (places c))) ≡ true) × (holds_place s ≡ 1)
anyone g c past a m Unknown e h = absurd h
anyone g c past a m InQueue e h = absurd h
anyone g c past a m Ended e h = absurd h
anyone g c past a m (Waits p) e h = let s = stands g c past m p a (ap place_in e) in (any_each (holds a) (place_view c past) 0 (places c) p (omega arith) (omega (arith, s.1)) (held_is past (holder p past) a s.0), refl)
anyone g c past a m (Runs p) e h = let s = stands g c past m p a (ap place_in e) in (any_each (holds a) (place_view c past) 0 (places c) p (omega arith) (omega (arith, s.1)) (held_is past (holder p past) a s.0), refl)

numbers_same : (reuse : Bool) (n : ℕ) (b : Bool) → b ≡ true → n ≡ 1 → numbers_for reuse (if b then 1 else 0) ≡ (if reuse then 0 else n)
numbers_same reuse n b e f = cc

abbrev with_both : PoolState → List Place → ℕ → PoolState
with_both s ps n = record s { places = ps; next = n }

abbrev number_at : ConfValues → Past → AttemptId → ℕ → ℕ
number_at c past a p = if not c.reuse && is_attempt a (holder p past) then next_container c past else container_of c p past

released_by : (g : Dag) (c : ConfValues) (past later : Past) (a : AttemptId) → IsMade g c past → IsPlaced (stage a past)
    → ((b : AttemptId) → stage b later ≡ (if same_attempt a b then Ended else stage b past))
    → after_release (pool_view c past) a
    ≡ with_both (pool_view c past) (map (λ p. place_with (number_at c past a p) (held_by later (freed a (holder p past)))) (numbers_below (places c))) (next_container c past + given_up c (holds_place (stage a past)) past)
released_by g c past later a m placed h =
    let any = anyone g c past a m (stage a past) refl placed in
    let lists = map_each (release_place c.reuse (next_container c past) a) (place_view c past) 0 (places c)
    ∙ map_below (λ p. release_place c.reuse (next_container c past) a (place_view c past p)) (λ p. place_with (number_at c past a p) (held_by later (freed a (holder p past)))) 0 (places c)
    (λ p _ _. released_at c.reuse (next_container c past) (container_of c p past) past later a (holder p past) h) in
    let n = numbers_same c.reuse (holds_place (stage a past)) (list_any (holds a) (map (place_view c past) (numbers_below (places c)))) any.0 any.1 in
    ap (λ ps. with_both (pool_view c past) ps (next_container c past + numbers_for c.reuse (if list_any (holds a) (map (place_view c past) (numbers_below (places c))) then 1 else 0))) lists
    ∙ ap (λ x. with_both (pool_view c past) (map (λ p. place_with (number_at c past a p) (held_by later (freed a (holder p past)))) (numbers_below (places c))) (next_container c past + x)) n

pub view_done : (g : Dag) (c : ConfValues) (past : Past) (a : AttemptId) → IsMade g c past → IsPlaced (stage a past) → after_release (pool_view c past) a ≡ pool_view c (Succeeded a ∷ past)
view_done g c past a m placed = released_by g c past (Succeeded a ∷ past) a m placed (λ b. refl)

pub view_failed : (g : Dag) (c : ConfValues) (past : Past) (a : AttemptId) → IsMade g c past → IsPlaced (stage a past) → after_release (pool_view c past) a ≡ pool_view c (Failed a ∷ past)
view_failed g c past a m placed = released_by g c past (Failed a ∷ past) a m placed (λ b. refl)

pub view_preempted : (g : Dag) (c : ConfValues) (past : Past) (a : AttemptId) → IsMade g c past → IsPlaced (stage a past) → after_release (pool_view c past) a ≡ pool_view c (Killed a Preempt ∷ past)
view_preempted g c past a m placed = released_by g c past (Killed a Preempt ∷ past) a m placed (λ b. refl)
