-- The rule of the commit holds in every history that is made.
use Rattle.std.specs.Prelude.{◌≡◌, ℕ, zero, suc, ◌<◌, ◌≤◌, ◌==◌, ◌&&◌, ◌||◌, not, nat_lt, nat_le, Bool, true, false, IsTrue, if◌then◌else◌, List, [], ◌∷◌, length, slice_get, Option, Some, None, refl}
use Rattle.std.specs.List.{filter}
use Rattle.std.specs.Option.{option_map_or}
use Rattle.std.proofs.Common.{inl, inr, ap, sym, ◌∙◌, arith, subst}
use Rattle.std.proofs.lemmas.Bool.{eqb-true}
use Rattle.std.proofs.lemmas.Bool.Decides.{nat_tests}
use Rattle.std.proofs.lemmas.Option.{same_Some}
use Rattle.tez_lists.specs.Numbers.{In}
use Rattle.tez_plan.specs.Dag.{Dag}
use Rattle.tez_conf.specs.declared.values.ConfValues.{ConfValues}
use Rattle.tez_events.specs.declared.Entry.TheVariants.{Opened, Over, Stopped, Committing, Ready, Asked, Settled, Published, CommitStarted, Finished}
use Rattle.tez_history.specs.Shape.{vertices, is_vertex, has_sink, sinks}
use Rattle.tez_history.specs.History.{Past, is_committing, is_found, is_readied, recorded, was_asked}
use Rattle.tez_history.specs.Derived.{next_sink, is_next}
use Rattle.tez_history.specs.Steps.{may_publish, may_ready, is_first_without}
use Rattle.tez_history.specs.Rules.{is_at_start, is_published, is_next_sink, sinks_told, is_commit_open, is_commit_found, asked_since, readied_since, awaited, sinks_before, is_awaited, is_opening_step}
use Rattle.tez_history.specs.Follows.{IsMade}
use Rattle.tez_laws.proofs.StepLaw.{both}
use Rattle.tez_laws.proofs.Opening.{all_hold}
use Rattle.tez_laws.proofs.Sinks.{before_at, first_in, passes-filter, sink_is_vertex, sinks_rise, none_pass}

-- ---- the next sink has as many before it as are recorded

pub is_it : (o : Option ℕ) (v : ℕ) → option_map_or (λ w. w == v) o false ≡ true → o ≡ Some v
is_it None v h = cc
is_it (Some w) v h = ap Some (eqb-true w v h)

pub next_before : (g : Dag) (past : Past) (v : ℕ) → is_next g past v ≡ true → sinks_before g v ≡ recorded past
next_before g past v h = before_at (sinks g) (recorded past) v (sinks_rise g) (is_it (next_sink g past) v h)

-- ---- what was told is among the recorded

pub told_few : (g : Dag) (c : ConfValues) (past : Past) → IsMade g c past → sinks_told past ≤ recorded past
told_few g c [] m = omega arith
told_few g c (Committing n ∷ past) m = let ih = told_few g c past m.1 in let more = m.0.1 in omega (arith, ih, more)
told_few g c (Settled v ∷ past) m = let ih = told_few g c past m.1 in omega (arith, ih)
told_few g c (Published v ∷ past) m = let ih = told_few g c past m.1 in omega (arith, ih)
told_few g c (_ ∷ past) m = told_few g c past m.1

pub next_of : (g : Dag) (past : Past) (v : ℕ) → IsTrue (may_publish g past v) → is_next g past v ≡ true
next_of g past v h = (both (both {x = is_committing past} h).1).0

pub told_before : (g : Dag) (c : ConfValues) (past : Past) (w : ℕ) → IsMade g c past → is_published w past ≡ true → sinks_before g w < recorded past
told_before g c [] w m h = cc
told_before g c (Committing n ∷ past) w m h = let ih = told_before g c past w m.1 h in let more = m.0.1 in omega (arith, ih, more)
told_before g c (Settled v ∷ past) w m h = by (v.0 == w) refl h (told_before g c past w m.1) where
  by : (b : Bool) → (v.0 == w) ≡ b → (b || is_published w past) ≡ true → (is_published w past ≡ true → sinks_before g w < recorded past) → sinks_before g w < suc (recorded past)
  by true e k before = let same : v.0 ≡ w = eqb-true v.0 w e in let at : sinks_before g w ≡ recorded past = subst (λ u. sinks_before g u ≡ recorded past) same (next_before g past v.0 m.0.1) in omega (arith, at)
  by false e k before = let ih = before k in omega (arith, ih)
told_before g c (Published v ∷ past) w m h = by (v.0 == w) refl h (told_before g c past w m.1) where
  by : (b : Bool) → (v.0 == w) ≡ b → (b || is_published w past) ≡ true → (is_published w past ≡ true → sinks_before g w < recorded past) → sinks_before g w < suc (recorded past)
  by true e k before = let same : v.0 ≡ w = eqb-true v.0 w e in let at : sinks_before g w ≡ recorded past = subst (λ u. sinks_before g u ≡ recorded past) same (next_before g past v.0 (next_of g past v.0 m.0)) in omega (arith, at)
  by false e k before = let ih = before k in omega (arith, ih)
told_before g c (_ ∷ past) w m h = told_before g c past w m.1 h

-- ---- a committing waits for the next sink

pub awaited_is : (past : Past) (n : ℕ) → awaited past ≡ Some n → recorded past ≡ n
awaited_is [] n h = cc
awaited_is (Committing k ∷ past) n h = same_Some k n h
awaited_is (Asked v ∷ past) n h = cc
awaited_is (Settled v ∷ past) n h = cc
awaited_is (Published v ∷ past) n h = cc
awaited_is (_ ∷ past) n h = awaited_is past n h

-- ---- an open comes at a start alone, so the rule's words are the model's

closed_at_start : (past : Past) → is_at_start past ≡ true → (is_commit_open past ≡ false) × (is_commit_found past ≡ false)
closed_at_start [] h = (refl, refl)
closed_at_start (Stopped cause ∷ past) h = (refl, refl)
closed_at_start (_ ∷ past) h = cc

pub open_same : (g : Dag) (c : ConfValues) (past : Past) → IsMade g c past → is_commit_open past ≡ is_committing past
open_same g c [] m = refl
open_same g c (Opened e ∷ past) m = (closed_at_start past m.0.0).0
open_same g c (CommitStarted ∷ past) m = refl
open_same g c (Committing n ∷ past) m = refl
open_same g c (Stopped cause ∷ past) m = refl
open_same g c (_ ∷ past) m = open_same g c past m.1

pub found_same : (g : Dag) (c : ConfValues) (past : Past) → IsMade g c past → is_commit_found past ≡ is_found past
found_same g c [] m = refl
found_same g c (Opened e ∷ past) m = (closed_at_start past m.0.0).1
found_same g c (Committing n ∷ past) m = refl
found_same g c (Stopped cause ∷ past) m = refl
found_same g c (_ ∷ past) m = found_same g c past m.1

-- ---- in a commit that was found a sink is readied once it was asked of

new_step : (past : Past) (v : ℕ) → is_opening_step past ≡ true → (was_asked v past ≡ false) × (is_readied v past ≡ false)
new_step [] v h = cc
new_step (Opened e ∷ past) v h = (refl, refl)
new_step (Rattle.tez_events.specs.declared.Entry.TheVariants.Stands w tasks base ∷ past) v h = new_step past v h
new_step (Rattle.tez_events.specs.declared.Entry.TheVariants.Carried t n ∷ past) v h = new_step past v h
new_step (Rattle.tez_events.specs.declared.Entry.TheVariants.Kept a ∷ past) v h = new_step past v h
new_step (_ ∷ past) v h = cc

true_false : {X : Type 0} {b : Bool} → b ≡ true → b ≡ false → X
true_false h k = cc

asked_then : (g : Dag) (c : ConfValues) (past : Past) (v : ℕ) → IsMade g c past → is_found past ≡ true → was_asked v past ≡ true → asked_since v past ≡ true
asked_then g c [] v m f h = cc
asked_then g c (Opened e ∷ past) v m f h = cc
asked_then g c (Stopped cause ∷ past) v m f h = cc
asked_then g c (Committing n ∷ past) v m f h = true_false h (new_step past v m.0.0).0
asked_then g c (Asked w ∷ past) v m f h = by (w.0 == v) h (asked_then g c past v m.1 f) where
  by : (b : Bool) → (b || was_asked v past) ≡ true → (was_asked v past ≡ true → asked_since v past ≡ true) → (b || asked_since v past) ≡ true
  by true k before = refl
  by false k before = before k
asked_then g c (_ ∷ past) v m f h = asked_then g c past v m.1 f h

pub choose : (x y f : Bool) → f ≡ true → IsTrue (if f then x else y) → x ≡ true
choose x y true e h = h
choose x y false e h = cc

pub readied_then : (g : Dag) (c : ConfValues) (past : Past) (v : ℕ) → IsMade g c past → is_found past ≡ true → is_readied v past ≡ true → readied_since v past ≡ true
readied_then g c [] v m f h = cc
readied_then g c (Opened e ∷ past) v m f h = cc
readied_then g c (Stopped cause ∷ past) v m f h = cc
readied_then g c (Committing n ∷ past) v m f h = true_false h (new_step past v m.0.0).1
readied_then g c (Rattle.tez_events.specs.declared.Entry.TheVariants.Rerun w ∷ past) v m f h = cc
readied_then g c (Ready w ∷ past) v m f h = by (w.0 == v) refl h (readied_then g c past v m.1 f) where
  by : (b : Bool) → (w.0 == v) ≡ b → (b || is_readied v past) ≡ true → (is_readied v past ≡ true → readied_since v past ≡ true) → ((b && asked_since v past) || readied_since v past) ≡ true
  by true e k before =
      let same : w.0 ≡ v = eqb-true w.0 v e in
      let asked : was_asked w.0 past ≡ true = (both (both {x = is_next g past w.0} (choose _ _ (is_found past) f m.0.1)).1).0 in
      ap (λ b. b || readied_since v past) (asked_then g c past v m.1 f (subst (λ u. was_asked u past ≡ true) same asked))
  by false e k before = before k
readied_then g c (_ ∷ past) v m f h = readied_then g c past v m.1 f h

-- ---- each entry of a commit passes the rule

pub at_in : (xs : List ℕ) (k v : ℕ) → slice_get xs k ≡ Some v → In v xs
at_in [] k v h = cc
at_in (x ∷ xs) zero v h = inl (sym (same_Some x v h))
at_in (x ∷ xs) (suc k) v h = inr (at_in xs k v h)

pub next_has : (g : Dag) (past : Past) (v : ℕ) → is_next g past v ≡ true → has_sink g v ≡ true
next_has g past v h = passes-filter (has_sink g) v (vertices g) (at_in (sinks g) (recorded past) v (is_it (next_sink g past) v h))

equal_numbers : (m n : ℕ) → m ≡ n → (m == n) ≡ true
equal_numbers m n h = grind (arith, nat_tests, h)

-- the next sink is the one that a committing waits for
pub next_awaited : (g : Dag) (past : Past) (v : ℕ) → is_next g past v ≡ true → is_awaited g past v ≡ true
next_awaited g past v h = by (awaited past) refl where
  by : (o : Option ℕ) → awaited past ≡ o → option_map_or (λ n. has_sink g v && (sinks_before g v == n)) o true ≡ true
  by None e = refl
  by (Some n) e = all_hold (has_sink g v) (sinks_before g v == n) (next_has g past v h) (equal_numbers (sinks_before g v) n (next_before g past v h ∙ awaited_is past n e))

-- fewer sinks come before an earlier one
count_more : (xs : List ℕ) (v w : ℕ) → v < w → length (filter (λ u. nat_lt u v) xs) ≤ length (filter (λ u. nat_lt u w) xs)
count_more [] v w h = omega arith
count_more (x ∷ xs) v w h = by (nat_lt x v) (nat_lt x w) refl refl (count_more xs v w h) where
  by : (a b : Bool) → nat_lt x v ≡ a → nat_lt x w ≡ b → length (filter (λ u. nat_lt u v) xs) ≤ length (filter (λ u. nat_lt u w) xs)
      → length (if a then x ∷ filter (λ u. nat_lt u v) xs else filter (λ u. nat_lt u v) xs) ≤ length (if b then x ∷ filter (λ u. nat_lt u w) xs else filter (λ u. nat_lt u w) xs)
  by true true e f ih = omega (arith, ih)
  by false true e f ih = omega (arith, ih)
  by false false e f ih = ih
  by true false e f ih = let low : x < v = (let k = e in grind (arith, nat_tests)) in let not_low : w ≤ x = (let k = f in grind (arith, nat_tests)) in absurd (omega (arith, low, not_low, h))

not_false : (b : Bool) → (b ≡ true → ⊥) → b ≡ false
not_false true h = absurd (h refl)
not_false false h = refl

-- it was not told, and none after it was
next_sink_is : (g : Dag) (c : ConfValues) (past : Past) (v : ℕ) → IsMade g c past → is_next g past v ≡ true → is_next_sink g past v ≡ true
next_sink_is g c past v m h =
    all_hold (has_sink g v) _ (next_has g past v h)
    (all_hold (not (is_published v past)) _ (ap not (not_false (is_published v past) here)) (ap not (none_pass (λ w. nat_lt v w && is_published w past) (sinks g) (λ w i. later w))))
  where
    at : sinks_before g v ≡ recorded past
    at = next_before g past v h

    here : is_published v past ≡ true → ⊥
    here t = let low = told_before g c past v m t in omega (arith, low, at)

    later : (w : ℕ) → (nat_lt v w && is_published w past) ≡ false
    later w = not_false (nat_lt v w && is_published w past) (λ t.
        let after : v < w = (let k = (both {x = nat_lt v w} t).0 in grind (arith, nat_tests)) in
        let low = told_before g c past w m (both {x = nat_lt v w} t).1 in
        let more = count_more (sinks g) v w after in
        omega (arith, low, more, at))

-- a commit that was found is open
pub found_open : (past : Past) → is_found past ≡ true → is_committing past ≡ true
found_open [] h = cc
found_open (Opened e ∷ past) h = cc
found_open (Stopped cause ∷ past) h = cc
found_open (Committing n ∷ past) h = refl
found_open (CommitStarted ∷ past) h = refl
found_open (_ ∷ past) h = found_open past h

-- a sink that may be readied is one
pub next_in : (g : Dag) (past : Past) (v : ℕ) → is_next g past v ≡ true → In v (sinks g)
next_in g past v h = at_in (sinks g) (recorded past) v (is_it (next_sink g past) v h)

pub ready_sink : (g : Dag) (past : Past) (v : ℕ) → IsTrue (may_ready g past v) → In v (sinks g)
ready_sink g past v h = by (is_found past) h where
  by : (b : Bool)
      → (if b then is_next g past v && (was_asked v past && not (is_readied v past)) else not (is_committing past) && is_first_without (λ w. is_readied w past) (sinks g) v) ≡ true
      → In v (sinks g)
  by true k = next_in g past v (both {x = is_next g past v} k).0
  by false k = (first_in (λ w. is_readied w past) (sinks g) v (both {x = not (is_committing past)} k).1).0

pub asked_right : (g : Dag) (c : ConfValues) (past : Past) (v : ℕ) → IsMade g c past → is_found past ≡ true → is_next g past v ≡ true
    → (is_vertex g v && (is_commit_open past && is_awaited g past v)) ≡ true
asked_right g c past v m f h =
    all_hold (is_vertex g v) _ (sink_is_vertex g v (next_in g past v h))
    (all_hold (is_commit_open past) (is_awaited g past v) (open_same g c past m ∙ found_open past f) (next_awaited g past v h))

pub settled_right : (g : Dag) (c : ConfValues) (past : Past) (v : ℕ) → IsMade g c past → is_found past ≡ true → is_next g past v ≡ true
    → (is_commit_open past && (is_next_sink g past v && is_awaited g past v)) ≡ true
settled_right g c past v m f h =
    all_hold (is_commit_open past) _ (open_same g c past m ∙ found_open past f)
    (all_hold (is_next_sink g past v) (is_awaited g past v) (next_sink_is g c past v m h) (next_awaited g past v h))

pub published_right : (g : Dag) (c : ConfValues) (past : Past) (v : ℕ) → IsMade g c past → IsTrue (may_publish g past v)
    → (is_commit_open past && (is_next_sink g past v && (is_awaited g past v && (not (is_commit_found past) || readied_since v past)))) ≡ true
published_right g c past v m h =
    all_hold (is_commit_open past) _ (open_same g c past m ∙ (both {x = is_committing past} h).0)
    (all_hold (is_next_sink g past v) _ (next_sink_is g c past v m next)
    (all_hold (is_awaited g past v) _ (next_awaited g past v next) (ap (λ b. not b || readied_since v past) (found_same g c past m) ∙ by (is_found past) refl (both {x = is_next g past v} (both {x = is_committing past} h).1).1)))
  where
    next : is_next g past v ≡ true
    next = next_of g past v h

    by : (b : Bool) → is_found past ≡ b → (not b || is_readied v past) ≡ true → (not b || readied_since v past) ≡ true
    by true e k = readied_then g c past v m e k
    by false e k = refl

none_left : (xs : List ℕ) (n : ℕ) → slice_get xs n ≡ None → length xs ≤ n
none_left [] n h = omega arith
none_left (x ∷ xs) zero h = cc
none_left (x ∷ xs) (suc n) h = let ih = none_left xs n h in omega (arith, ih)

pub finished_right : (g : Dag) (past : Past) → next_sink g past ≡ None → nat_le (length (sinks g)) (recorded past) ≡ true
finished_right g past h = let few = none_left (sinks g) (recorded past) h in grind (arith, nat_tests)

pub committing_right : (g : Dag) (c : ConfValues) (past : Past) (n : ℕ) → IsMade g c past → recorded past ≤ n → nat_le (sinks_told past) n ≡ true
committing_right g c past n m h = let few = told_few g c past m in let low : sinks_told past ≤ n = omega (arith, few, h) in grind (arith, nat_tests)
