-- What always holds of numbers and places: a known attempt was counted, and a place is held by whoever stands there.
use Rattle.std.specs.Prelude.{◌≡◌, ◌≢◌, ℕ, ◌+◌, ◌<◌, ◌==◌, ◌&&◌, ◌||◌, ⊤, Bool, true, false, IsTrue, if◌then◌else◌, [], ◌∷◌, Option, Some, None, refl}
use Rattle.std.proofs.Common.{ap, sym, ◌∙◌, arith, subst}
use Rattle.std.proofs.lemmas.Bool.Decides.{nat_tests}
use Rattle.tez_ids.specs.declared.TaskId.{TaskId}
use Rattle.tez_ids.specs.declared.AttemptId.{AttemptId}
use Rattle.tez_events.specs.declared.Entry.TheVariants.{Opened, Over, Queued, Placed, Fetched, Ordered, Succeeded, Failed, Killed, Stopped}
use Rattle.tez_ids.specs.Same.{attempt, same_task, same_attempt}
use Rattle.tez_plan.specs.Dag.{Dag}
use Rattle.tez_conf.specs.declared.values.ConfValues.{ConfValues}
use Rattle.tez_history.specs.Shape.{places}
use Rattle.tez_history.specs.History.{Past, Stage, Unknown, InQueue, Waits, Runs, Ended, stage, sent, holder, freed, epoch, attempts, is_fetched}
use Rattle.tez_history.specs.Derived.{next_attempt, is_waiting, is_processing}
use Rattle.tez_history.specs.Rules.{is_at_start}
use Rattle.tez_history.specs.Follows.{IsAlive, IsPlaced, IsMade}
use Rattle.tez_laws.specs.Laws.{IsKnown, place_in}
use Rattle.tez_laws.proofs.OneLive.{killed_placed}
use Rattle.tez_laws.proofs.Same.{same_task-true, same_task-refl, same_attempt-true, same_attempt-refl}

pub alive_known : (s : Stage) → IsAlive s → IsKnown s
alive_known Unknown h = h
alive_known InQueue h = tt
alive_known (Waits p) h = tt
alive_known (Runs p) h = tt
alive_known Ended h = tt

pub placed_known : (s : Stage) → IsPlaced s → IsKnown s
placed_known Unknown h = h
placed_known InQueue h = tt
placed_known (Waits p) h = tt
placed_known (Runs p) h = tt
placed_known Ended h = tt

pub sent_known : (b : Bool) (s : Stage) → IsKnown (sent b s) → IsKnown s
sent_known true Unknown h = h
sent_known true InQueue h = tt
sent_known true (Waits p) h = tt
sent_known true (Runs p) h = tt
sent_known true Ended h = tt
sent_known false s h = h

-- a known attempt has the present epoch and a number below the count of its task
abbrev pub IsCounted : AttemptId → ℕ → ℕ → Type 0
IsCounted a epoch count = (a.epoch.0 ≡ epoch) × (a.number < count)

counted_queued : (b a : AttemptId) (s : Stage) (e n : ℕ) → (IsKnown s → IsCounted a e n) → (b ≡ a → IsCounted a e (1 + n))
    → IsKnown (if same_attempt b a then InQueue else s) → IsCounted a e ((if same_task b.task a.task then 1 else 0) + n)
counted_queued b a s e n ih new h = grind (arith, same_attempt-true, same_task-true, same_task-refl)

counted_moved : (b a : AttemptId) (x s : Stage) (e n : ℕ) → (IsKnown s → IsCounted a e n) → (b ≡ a → IsKnown s) → IsKnown (if same_attempt b a then x else s) → IsCounted a e n
counted_moved b a x s e n ih was h = grind (arith, same_attempt-true)

along : (past : Past) (b a : AttemptId) → IsKnown (stage b past) → b ≡ a → IsKnown (stage a past)
along past b a h e = subst (λ x. IsKnown (stage x past)) e h

pub waiting_known : (s : Stage) → IsTrue (is_waiting s) → IsKnown s
waiting_known (Waits p) h = tt
waiting_known InQueue h = tt
waiting_known (Runs p) h = tt
waiting_known Ended h = tt
waiting_known Unknown h = cc

pub running_known : (s : Stage) → IsTrue (is_processing s) → IsKnown s
running_known (Waits p) h = tt
running_known InQueue h = tt
running_known (Runs p) h = tt
running_known Ended h = tt
running_known Unknown h = cc

pub new_counted : (past : Past) (b a : AttemptId) → b ≡ next_attempt past b.task → b ≡ a → IsCounted a (epoch past) (1 + attempts a.task past)
new_counted past b a new same = subst (λ x. IsCounted x (epoch past) (1 + attempts x.task past)) same (ap (λ x. x.epoch.0) new, let e : b.number ≡ attempts b.task past = ap (λ x. x.number) new in omega arith)

pub known : (g : Dag) (c : ConfValues) (past : Past) → IsMade g c past → (a : AttemptId) → IsKnown (stage a past) → IsCounted a (epoch past) (attempts a.task past)
known g c [] m a h = absurd h
known g c (Opened _ ∷ past) m a h = absurd h
known g c (Over ∷ past) m a h = absurd h
known g c (Stopped _ ∷ past) m a h = absurd h
known g c (Queued b ∷ past) m a h =
    counted_queued b a (stage a past) (epoch past) (attempts a.task past) (known g c past m.1 a) (new_counted past b a m.0.2) h
known g c (Placed b k p ∷ past) m a h =
    counted_moved b a (Waits p) (stage a past) (epoch past) (attempts a.task past) (known g c past m.1 a)
    (along past b a (subst IsKnown (sym m.0.0) tt)) h
known g c (Ordered b ∷ past) m a h = known g c past m.1 a (sent_known (same_attempt b a) (stage a past) h)
known g c (Succeeded b ∷ past) m a h =
    counted_moved b a Ended (stage a past) (epoch past) (attempts a.task past) (known g c past m.1 a) (along past b a (running_known (stage b past) m.0)) h
known g c (Failed b ∷ past) m a h =
    counted_moved b a Ended (stage a past) (epoch past) (attempts a.task past) (known g c past m.1 a) (along past b a (running_known (stage b past) m.0)) h
known g c (Killed b cause ∷ past) m a h =
    counted_moved b a Ended (stage a past) (epoch past) (attempts a.task past) (known g c past m.1 a) (along past b a (placed_known (stage b past) (killed_placed g c past b cause m.0))) h
known g c (_ ∷ past) m a h = known g c past m.1 a h

-- the next attempt of a task is not known
not_counted : (t : TaskId) (e n : ℕ) → IsCounted (attempt e t n) e n → ⊥
not_counted t e n h = omega (arith, h.1)

pub fresh : (g : Dag) (c : ConfValues) (past : Past) → IsMade g c past → (t : TaskId) → IsKnown (stage (next_attempt past t) past) → ⊥
fresh g c past m t h = not_counted t (epoch past) (attempts t past) (known g c past m (next_attempt past t) h)

-- ---- places

pub in_place : (s : Stage) (p : ℕ) → place_in s ≡ Some p → IsPlaced s
in_place Unknown p h = cc
in_place InQueue p h = cc
in_place (Waits q) p h = tt
in_place (Runs q) p h = tt
in_place Ended p h = cc

place_in-sent : (b : Bool) (s : Stage) → place_in (sent b s) ≡ place_in s
place_in-sent true Unknown = refl
place_in-sent true InQueue = refl
place_in-sent true (Waits p) = refl
place_in-sent true (Runs p) = refl
place_in-sent true Ended = refl
place_in-sent false s = refl

-- no place is held where a master starts
pub none_held_at_start : (past : Past) (p : ℕ) → IsTrue (is_at_start past) → holder p past ≡ None
none_held_at_start [] p h = refl
none_held_at_start (Stopped _ ∷ past) p h = refl
none_held_at_start (_ ∷ past) p h = cc

held_queued : (b a : AttemptId) (s : Stage) (p : ℕ) → place_in s ≡ Some p → (b ≡ a → place_in s ≡ Some p → ⊥) → place_in (if same_attempt b a then InQueue else s) ≡ Some p
held_queued b a s p was new = grind (arith, same_attempt-true)

held_placed : (b a : AttemptId) (s : Stage) (h : Option AttemptId) (q p : ℕ) → (h ≡ Some a → place_in s ≡ Some p) → (b ≡ a → place_in s ≡ None)
    → (if q == p then Some b else h) ≡ Some a → place_in (if same_attempt b a then Waits q else s) ≡ Some p
held_placed b a s h q p ih new e = grind (arith, nat_tests, same_attempt-true, same_attempt-refl)

held_freed : (b a : AttemptId) (s : Stage) (h : Option AttemptId) (p : ℕ) → (h ≡ Some a → place_in s ≡ Some p)
    → freed b h ≡ Some a → place_in (if same_attempt b a then Ended else s) ≡ Some p
held_freed b a s None p ih e = cc
held_freed b a s (Some x) p ih e = grind (arith, same_attempt-true)

fresh_place : (g : Dag) (c : ConfValues) (past : Past) → IsMade g c past → (b a : AttemptId) (p : ℕ) → b ≡ next_attempt past b.task → b ≡ a → place_in (stage a past) ≡ Some p → ⊥
fresh_place g c past m b a p new same at =
    fresh g c past m b.task (subst (λ x. IsKnown (stage x past)) (sym same ∙ new) (placed_known (stage a past) (in_place (stage a past) p at)))

-- who holds a place stands there
pub held : (g : Dag) (c : ConfValues) (past : Past) → IsMade g c past → (p : ℕ) (a : AttemptId) → holder p past ≡ Some a → place_in (stage a past) ≡ Some p
held g c [] m p a h = cc
held g c (Stopped _ ∷ past) m p a h = cc
held g c (Opened _ ∷ past) m p a h = let none : holder p past ≡ None = none_held_at_start past p m.0.0 in cc
held g c (Over ∷ past) m p a h = let none : holder p past ≡ None = none_held_at_start past p m.0 in cc
held g c (Queued b ∷ past) m p a h = held_queued b a (stage a past) p (held g c past m.1 p a h) (fresh_place g c past m.1 b a p m.0.2)
held g c (Placed b k q ∷ past) m p a h =
    held_placed b a (stage a past) (holder p past) q p (held g c past m.1 p a)
    (λ same. subst (λ x. place_in (stage x past) ≡ None) same (ap place_in m.0.0)) h
held g c (Ordered b ∷ past) m p a h = place_in-sent (same_attempt b a) (stage a past) ∙ held g c past m.1 p a h
held g c (Succeeded b ∷ past) m p a h = held_freed b a (stage a past) (holder p past) p (held g c past m.1 p a) h
held g c (Failed b ∷ past) m p a h = held_freed b a (stage a past) (holder p past) p (held g c past m.1 p a) h
held g c (Killed b _ ∷ past) m p a h = held_freed b a (stage a past) (holder p past) p (held g c past m.1 p a) h
held g c (_ ∷ past) m p a h = held g c past m.1 p a h

-- ---- whoever stands at a place holds it, and the place is there

stands_placed : (b a : AttemptId) (s : Stage) (h : Option AttemptId) (q p n : ℕ) → (place_in s ≡ Some p → (h ≡ Some a) × (p < n)) → (h ≡ Some a → b ≡ a → ⊥) → h ≡ h → q < n
    → (place_in s ≡ Some q → ⊥) → place_in (if same_attempt b a then Waits q else s) ≡ Some p → ((if q == p then Some b else h) ≡ Some a) × (p < n)
stands_placed b a s h q p n ih other same inside free e = by (same_attempt b a) refl e where
  by : (x : Bool) → same_attempt b a ≡ x → place_in (if x then Waits q else s) ≡ Some p → ((if q == p then Some b else h) ≡ Some a) × (p < n)
  by true t k = let here : q ≡ p = cc in let who : b ≡ a = same_attempt-true b a t in (grind (arith, nat_tests), subst (λ x. x < n) here inside)
  by false t k = let was = ih k in let apart : q ≢ p = λ i. free (k ∙ ap Some (sym i)) in (grind (arith, nat_tests), was.1)

stands_freed : (b a : AttemptId) (s : Stage) (h : Option AttemptId) (p n : ℕ) → (place_in s ≡ Some p → (h ≡ Some a) × (p < n))
    → place_in (if same_attempt b a then Ended else s) ≡ Some p → (freed b h ≡ Some a) × (p < n)
stands_freed b a s h p n ih e = by (same_attempt b a) refl e where
  by : (x : Bool) → same_attempt b a ≡ x → place_in (if x then Ended else s) ≡ Some p → (freed b h ≡ Some a) × (p < n)
  by true t k = cc
  by false t k = let was = ih k in (ap (freed b) was.0 ∙ rw t refl, was.1)

queued_place : (b : Bool) (s : Stage) (p : ℕ) → place_in (if b then InQueue else s) ≡ Some p → place_in s ≡ Some p
queued_place true s p h = cc
queued_place false s p h = h

unplaced : (s : Stage) (p : ℕ) → s ≡ InQueue → place_in s ≡ Some p → ⊥
unplaced s p e h = cc

no_holder : (h : Option AttemptId) (a : AttemptId) → h ≡ None → h ≡ Some a → ⊥
no_holder h a e k = cc

pub stands : (g : Dag) (c : ConfValues) (past : Past) → IsMade g c past → (p : ℕ) (a : AttemptId) → place_in (stage a past) ≡ Some p → (holder p past ≡ Some a) × (p < places c)
stands g c [] m p a h = cc
stands g c (Stopped _ ∷ past) m p a h = cc
stands g c (Opened _ ∷ past) m p a h = cc
stands g c (Over ∷ past) m p a h = cc
stands g c (Queued b ∷ past) m p a h = stands g c past m.1 p a (queued_place (same_attempt b a) (stage a past) p h)
stands g c (Placed b k q ∷ past) m p a h =
    stands_placed b a (stage a past) (holder p past) q p (places c) (stands g c past m.1 p a)
    (λ was same. unplaced (stage b past) p m.0.0 (subst (λ x. place_in (stage x past) ≡ Some p) (sym same) (held g c past m.1 p a was))) refl m.0.2
    (λ at. no_holder (holder q past) a m.0.1 (stands g c past m.1 q a at).0) h
stands g c (Ordered b ∷ past) m p a h = stands g c past m.1 p a (sym (place_in-sent (same_attempt b a) (stage a past)) ∙ h)
stands g c (Succeeded b ∷ past) m p a h = stands_freed b a (stage a past) (holder p past) p (places c) (stands g c past m.1 p a) h
stands g c (Failed b ∷ past) m p a h = stands_freed b a (stage a past) (holder p past) p (places c) (stands g c past m.1 p a) h
stands g c (Killed b _ ∷ past) m p a h = stands_freed b a (stage a past) (holder p past) p (places c) (stands g c past m.1 p a) h
stands g c (_ ∷ past) m p a h = stands g c past m.1 p a h

-- ---- who has fetched was placed

abbrev pub HasStarted : Stage → Type 0
HasStarted Unknown = ⊥
HasStarted InQueue = ⊥
HasStarted (Waits p) = ⊤
HasStarted (Runs p) = ⊤
HasStarted Ended = ⊤

started_sent : (b : Bool) (s : Stage) → HasStarted s → HasStarted (sent b s)
started_sent true (Waits p) h = tt
started_sent true (Runs p) h = tt
started_sent true Ended h = tt
started_sent true Unknown h = h
started_sent true InQueue h = h
started_sent false s h = h

started_to : (b : Bool) (s t : Stage) → HasStarted t → HasStarted s → HasStarted (if b then t else s)
started_to true s t k h = k
started_to false s t k h = h

started_known : (s : Stage) → HasStarted s → IsKnown s
started_known Unknown h = h
started_known InQueue h = tt
started_known (Waits p) h = tt
started_known (Runs p) h = tt
started_known Ended h = tt

started_queued : (b a : AttemptId) (s : Stage) → HasStarted s → (b ≡ a → ⊥) → HasStarted (if same_attempt b a then InQueue else s)
started_queued b a s h new = by (same_attempt b a) refl where
  by : (x : Bool) → same_attempt b a ≡ x → HasStarted (if x then InQueue else s)
  by true e = absurd (new (same_attempt-true b a e))
  by false e = h

waits_started : (s : Stage) → IsTrue (is_waiting s) → HasStarted s
waits_started (Waits p) h = tt
waits_started Unknown h = cc
waits_started InQueue h = cc
waits_started (Runs p) h = tt
waits_started Ended h = tt

either : (b a : AttemptId) (x y : Bool) (s : AttemptId → Stage) → ((same_attempt b a && x) || y) ≡ true → HasStarted (s b) → (y ≡ true → HasStarted (s a)) → HasStarted (s a)
either b a x y s e h ih = by (same_attempt b a) refl e where
  by : (z : Bool) → same_attempt b a ≡ z → ((z && x) || y) ≡ true → HasStarted (s a)
  by true t k = subst (λ u. HasStarted (s u)) (same_attempt-true b a t) h
  by false t k = ih k

pub fetched_started : (g : Dag) (c : ConfValues) (past : Past) → IsMade g c past → (a : AttemptId) (e i : ℕ) → is_fetched a e i past ≡ true → HasStarted (stage a past)
fetched_started g c [] m a e i h = cc
fetched_started g c (Opened _ ∷ past) m a e i h = cc
fetched_started g c (Over ∷ past) m a e i h = cc
fetched_started g c (Stopped _ ∷ past) m a e i h = cc
fetched_started g c (Queued b ∷ past) m a e i h =
    let was = fetched_started g c past m.1 a e i h in
    started_queued b a (stage a past) was (λ same. fresh g c past m.1 b.task (subst (λ x. IsKnown (stage x past)) (sym same ∙ m.0.2) (started_known (stage a past) was)))
fetched_started g c (Placed b k p ∷ past) m a e i h = started_to (same_attempt b a) (stage a past) (Waits p) tt (fetched_started g c past m.1 a e i h)
fetched_started g c (Ordered b ∷ past) m a e i h = started_sent (same_attempt b a) (stage a past) (fetched_started g c past m.1 a e i h)
fetched_started g c (Succeeded b ∷ past) m a e i h = started_to (same_attempt b a) (stage a past) Ended tt (fetched_started g c past m.1 a e i h)
fetched_started g c (Failed b ∷ past) m a e i h = started_to (same_attempt b a) (stage a past) Ended tt (fetched_started g c past m.1 a e i h)
fetched_started g c (Killed b _ ∷ past) m a e i h = started_to (same_attempt b a) (stage a past) Ended tt (fetched_started g c past m.1 a e i h)
fetched_started g c (Fetched b d j w ∷ past) m a e i h =
    either b a ((d.0 == e) && (j == i)) (is_fetched a e i past) (λ x. stage x past) h (waits_started (stage b past) m.0.0) (λ k. fetched_started g c past m.1 a e i k)
fetched_started g c (_ ∷ past) m a e i h = fetched_started g c past m.1 a e i h

-- a queued attempt has fetched nothing
pub queued_fetched : (g : Dag) (c : ConfValues) (past : Past) → IsMade g c past → (a : AttemptId) (e i : ℕ) → stage a past ≡ InQueue → is_fetched a e i past ≡ false
queued_fetched g c past m a e i q = by (is_fetched a e i past) refl where
  by : (b : Bool) → is_fetched a e i past ≡ b → is_fetched a e i past ≡ false
  by true h = absurd (subst HasStarted q (fetched_started g c past m a e i h))
  by false h = h
