-- Who holds places stays within the plan.
use Rattle.std.specs.Prelude.{◌≡◌, ℕ, zero, suc, ◌+◌, ◌<◌, ◌==◌, ◌/◌, ◌%◌, Bool, true, false, if◌then◌else◌, List, [], ◌∷◌, length, map, slice_get, slice_set, Option, Some, None, refl, option_and_then}
use Rattle.std.specs.Option.{option_map}
use Rattle.std.proofs.Common.{ap, sym, ◌∙◌, subst, arith, inl, inr, ◌⊎◌}
use Rattle.std.proofs.lemmas.Option.{same_Some, slice_get-map}
use Rattle.tez_ids.specs.declared.AttemptId.{AttemptId}
use Rattle.tez_ids.specs.Same.{same_attempt}
use Rattle.tez_lists.specs.Tables.{each_from}
use Rattle.tez_plan.specs.Dag.{Dag}
use Rattle.tez_pool.specs.declared.place.Held.{Held}
use Rattle.tez_pool.specs.declared.place.Place.{Place}
use Rattle.tez_pool.specs.State.{PoolState}
use Rattle.tez_pool.specs.Index.{held_at}
use Rattle.tez_pool.specs.Victim.{AreIn}
use Rattle.tez_pool.specs.Table.{who, holds, is_free, freed_place, release_place, send_held, send_place, lose_place, free, taken, take_place, after_place, after_sent, after_release, after_loss}
use Rattle.tez_lead.proofs.Lists.{tells, set_here, set_elsewhere}

fewer : (g : Dag) (places later : List Place) → AreIn g places → ((q : ℕ) (a : AttemptId) → held_at later q ≡ Some a → held_at places q ≡ Some a) → AreIn g later
fewer g places later k f = λ q a h. k q a (f q a h)

by_place : (f : Place → Place) (places : List Place) (q : ℕ) (a : AttemptId) → ((x : Place) → who (f x) ≡ Some a → who x ≡ Some a) → held_at (map f places) q ≡ Some a → held_at places q ≡ Some a
by_place f places q a less h = by (slice_get places q) (sym (ap (option_and_then who) (slice_get-map f places q)) ∙ h) where
  by : (o : Option Place) → option_and_then who (option_map f o) ≡ Some a → option_and_then who o ≡ Some a
  by None e = e
  by (Some x) e = less x e

sent_who : (a : AttemptId) (x : Place) → who (send_place a x) ≡ who x
sent_who a x = by x.holder where
  at : (h : Held) (b : Bool) → option_map (λ (k : Held). k.attempt) (Some (if b then record h { sent = true } else h)) ≡ Some h.attempt
  at h true = refl
  at h false = refl

  by : (o : Option Held) → option_map (λ (k : Held). k.attempt) (send_held a o) ≡ option_map (λ (k : Held). k.attempt) o
  by None = refl
  by (Some h) = at h (same_attempt a h.attempt)

pub sent_within : (g : Dag) (s : PoolState) (a : AttemptId) → AreIn g s.places → AreIn g (after_sent s a).places
sent_within g s a k = fewer g s.places (map (send_place a) s.places) k (λ q b h. by_place (send_place a) s.places q b (λ x e. sym (sent_who a x) ∙ e) h)

freed_who : (reuse : Bool) (next : ℕ) (x : Place) → who (freed_place reuse next x) ≡ None
freed_who true next x = refl
freed_who false next x = refl

release_who : (reuse : Bool) (next : ℕ) (a b : AttemptId) (x : Place) → who (release_place reuse next a x) ≡ Some b → who x ≡ Some b
release_who reuse next a b x h = by (holds a x) h where
  by : (c : Bool) → who (if c then freed_place reuse next x else x) ≡ Some b → who x ≡ Some b
  by true e = let none = freed_who reuse next x in let both : None ≡ Some b = sym none ∙ e in cc
  by false e = e

pub release_within : (g : Dag) (s : PoolState) (a : AttemptId) → AreIn g s.places → AreIn g (after_release s a).places
release_within g s a k = fewer g s.places (map (release_place s.reuse s.next a) s.places) k (λ q b h. by_place (release_place s.reuse s.next a) s.places q b (λ x e. release_who s.reuse s.next a b x e) h)

each_get : (f : ℕ → Place → Place) (n : ℕ) (places : List Place) (q : ℕ) → slice_get (each_from n f places) q ≡ option_map (f (n + q)) (slice_get places q)
each_get f n [] q = refl
each_get f n (x ∷ xs) zero = let e : n + 0 ≡ n = omega arith in ap (λ m. Some (f m x)) (sym e)
each_get f n (x ∷ xs) (suc q) = let e : suc n + q ≡ n + suc q = omega arith in each_get f (suc n) xs q ∙ ap (λ m. option_map (f m) (slice_get xs q)) e

lose_who : (per slot next p : ℕ) (x : Place) (a : AttemptId) → who (lose_place per slot next p x) ≡ Some a → who x ≡ Some a
lose_who per slot next p x a h = by (p / per == slot) h where
  by : (b : Bool) → who (if b then free (next + p % per) else x) ≡ Some a → who x ≡ Some a
  by true e = cc
  by false e = e

pub loss_within : (g : Dag) (s : PoolState) (slot : ℕ) → AreIn g s.places → AreIn g (after_loss s slot).places
loss_within g s slot k = fewer g s.places (each_from 0 (lose_place s.per_node slot s.next) s.places) k
    (λ q a h. by q a (slice_get s.places q) (sym (ap (option_and_then who) (each_get (lose_place s.per_node slot s.next) 0 s.places q)) ∙ h))
  where
    by : (q : ℕ) (a : AttemptId) (o : Option Place) → option_and_then who (option_map (lose_place s.per_node slot s.next (0 + q)) o) ≡ Some a → option_and_then who o ≡ Some a
    by q a None e = e
    by q a (Some x) e = lose_who s.per_node slot s.next (0 + q) x a e

pub place_within : (g : Dag) (s : PoolState) (a : AttemptId) (p : ℕ) → a.task.vertex.0 < length g.vertices → AreIn g s.places → AreIn g (after_place s a p).places
place_within g s a p there k = at (slice_get s.places p) refl where
  taking : (x : Place) → slice_get s.places p ≡ Some x → (q : ℕ) (b : AttemptId) → held_at (slice_set s.places p (taken a x)) q ≡ Some b → (p ≡ q) ⊎ (p ≡ q → ⊥) → b.task.vertex.0 < length g.vertices
  taking x e q b h (inl same) =
      let here : held_at (slice_set s.places p (taken a x)) q ≡ Some a = ap (held_at (slice_set s.places p (taken a x))) (sym same) ∙ ap (option_and_then who) (set_here s.places p x (taken a x) e) in
      subst (λ (c : AttemptId). c.task.vertex.0 < length g.vertices) (same_Some a b (sym here ∙ h)) there
  taking x e q b h (inr ne) = k q b (sym (ap (option_and_then who) (set_elsewhere s.places p q (taken a x) ne)) ∙ h)

  by : (x : Place) → slice_get s.places p ≡ Some x → (b : Bool) → AreIn g (if b then record s { places = slice_set s.places p (taken a x) } else s).places
  by x e true = λ q b h. taking x e q b h (tells p q)
  by x e false = k

  at : (o : Option Place) → slice_get s.places p ≡ o → AreIn g (take_place s a p o).places
  at None e = k
  at (Some x) e = by x e (is_free x)

pub place_per : (s : PoolState) (a : AttemptId) (p : ℕ) → (after_place s a p).per_node ≡ s.per_node
place_per s a p = at (slice_get s.places p) where
  by : (x : Place) (b : Bool) → (if b then record s { places = slice_set s.places p (taken a x) } else s).per_node ≡ s.per_node
  by x true = refl
  by x false = refl

  at : (o : Option Place) → (take_place s a p o).per_node ≡ s.per_node
  at None = refl
  at (Some x) = by x (is_free x)
