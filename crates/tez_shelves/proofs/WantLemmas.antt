-- Slots after marks are set.
--     marked_held, marked_shelved     they hold what they held
--     marked_tests                    a mark is what it was set to
--     too_at, too_none                after the mark of an attempt's slot, or where it has none
--     too                             a mark beside those that are set
--     one_more                        after the mark of one more attempt of a list
use Rattle.std.proofs.Common.{◌≡◌, ◌≢◌, ◌<◌, ◌==◌, ◌||◌, ℕ, ◌+◌, eqb, if◌then◌else◌, Bool, true, false, List, [], ◌∷◌, length, take, get_or, refl, sym, ap, ◌∙◌, subst, Option, Some, None, IfSome, IsSomeAnd, ◌⊎◌, inl, inr}
use Rattle.std.specs.Option.{option_map}
use Rattle.std.specs.List.{list_any}
use Rattle.std.specs.Map.{lookup}
use Rattle.std.proofs.lemmas.Bool.Decides.{eqb_tells}
use Rattle.std.proofs.lemmas.Option.{same_Some}
use Rattle.std.proofs.lemmas.List.Folds.{list_any_more}
use Rattle.slab.specs.Slab.{Slab, get}
use Rattle.tez_ids.specs.declared.AttemptId.{AttemptId}
use Rattle.tez_ids.specs.Same.{same_attempt}
use Rattle.tez_ids.proofs.Sameness.{same_attempt-true, same_attempt-refl}
use Rattle.tez_lists.proofs.Cases.{cases}
use Rattle.tez_lists.proofs.Tables.{if_same, if_other}
use Rattle.tez_shelves.specs.declared.slots.Shelved.{Shelved}
use Rattle.tez_shelves.specs.Slots.{held, shelved, AreHeld, marked}
use Rattle.tez_shelves.proofs.ShelfLemmas.{held_at, named_at}

module _ (old new : Slab Shelved) (m : Shelved → Bool)
    (slots : (k : ℕ) → get new k ≡ option_map (λ s. marked (m s) s) (get old k)) where
  still_own : (a : AttemptId) (o : Option Shelved) → IsSomeAnd o (λ s. s.attempt ≡ a)
      → IsSomeAnd (option_map (λ s. marked (m s) s) o) (λ s. s.attempt ≡ a)
  still_own a None h = h
  still_own a (Some s) h = h

  still_at : (a : AttemptId) (o : Option ℕ) → IfSome o (λ k. IsSomeAnd (get old k) (λ s. s.attempt ≡ a))
      → IfSome o (λ k. IsSomeAnd (get new k) (λ s. s.attempt ≡ a))
  still_at a None h = h
  still_at a (Some k) h = subst (λ o. IsSomeAnd o (λ s. s.attempt ≡ a)) (sym (slots k)) (still_own a (get old k) h)

  still_named : (P : AttemptId → Type 0) (o : Option Shelved) → IfSome o (λ s. P s.attempt)
      → IfSome (option_map (λ s. marked (m s) s) o) (λ s. P s.attempt)
  still_named P None h = h
  still_named P (Some s) h = h

  pub marked_held : (entries : List (AttemptId × ℕ)) → AreHeld old entries → AreHeld new entries
  marked_held entries whole = record {
    own = λ a. still_at a (lookup (same_attempt a) entries) (whole.own a);
    named = λ k.
        let there = still_named (λ a. lookup (same_attempt a) entries ≡ Some k) (get old k) (whole.named k) in
        subst (λ o. IfSome o (λ s. lookup (same_attempt s.attempt) entries ≡ Some k)) (sym (slots k)) there;
  }

  as_held : (o : Option Shelved) → held (option_map (λ s. marked (m s) s) o) ≡ held o
  as_held None = refl
  as_held (Some s) = refl

  pub marked_shelved : (entries : List (AttemptId × ℕ)) → shelved new entries ≡ shelved old entries
  marked_shelved [] = refl
  marked_shelved (e ∷ entries) =
      let here : held (get new e.1) ≡ held (get old e.1) = ap held (slots e.1) ∙ as_held (get old e.1) in
      let rest = marked_shelved entries in
      cc

-- marks that are set by the attempt alone
pub marked_tests : (old new : Slab Shelved) (m : AttemptId → Bool)
    → ((k : ℕ) → get new k ≡ option_map (λ s. marked (m s.attempt) s) (get old k))
    → (k : ℕ) (s : Shelved) → get new k ≡ Some s → s.wanted ≡ m s.attempt
marked_tests old new m slots k s e = by (get old k) (sym (slots k) ∙ e) where
  by : (o : Option Shelved) → option_map (λ s. marked (m s.attempt) s) o ≡ Some s → s.wanted ≡ m s.attempt
  by None is = cc
  by (Some t) is = subst (λ u. u.wanted ≡ m u.attempt) (same_Some (marked (m t.attempt) t) s is) refl

-- the mark of an attempt beside those that are set
abbrev pub too : AttemptId → Shelved → Shelved
too a s = marked (s.wanted || same_attempt s.attempt a) s

or_true : (b : Bool) → true ≡ (b || true)
or_true true = refl
or_true false = refl

or_false : (b : Bool) → b ≡ (b || false)
or_false true = refl
or_false false = refl

as_it_was : (a : AttemptId) (s : Shelved) → same_attempt s.attempt a ≡ false → s ≡ too a s
as_it_was a s other = ap (λ w. marked w s) (or_false s.wanted ∙ ap (λ t. s.wanted || t) (sym other))

module _ (slots : Slab Shelved) (entries : List (AttemptId × ℕ)) (a : AttemptId) (whole : AreHeld slots entries) where
  -- a slot that is not this attempt's
  elsewhere : (j : ℕ) → (lookup (same_attempt a) entries ≡ Some j → ⊥) → get slots j ≡ option_map (too a) (get slots j)
  elsewhere j differs = by (get slots j) refl where
    by : (o : Option Shelved) → get slots j ≡ o → o ≡ option_map (too a) o
    by None e = refl
    by (Some s) e = cases (same_attempt s.attempt a)
        (λ here.
        let it = ap (λ b. lookup (same_attempt b) entries) (sym (same_attempt-true s.attempt a here)) in
        absurd (differs (it ∙ named_at slots entries j s whole e)))
        (λ other. ap Some (as_it_was a s other))

  pub too_none : lookup (same_attempt a) entries ≡ None → (j : ℕ) → get slots j ≡ option_map (too a) (get slots j)
  too_none none j = elsewhere j (λ e. cc (none, e))

  pub too_at : (new : Slab Shelved) (k : ℕ) → lookup (same_attempt a) entries ≡ Some k
      → ((j : ℕ) → get new j ≡ (if j == k then option_map (marked true) (get slots k) else get slots j))
      → (j : ℕ) → get new j ≡ option_map (too a) (get slots j)
  too_at new k its set j = by (eqb_tells j k) where
    by : ((eqb j k ≡ true) × (j ≡ k)) ⊎ ((eqb j k ≡ false) × (j ≢ k)) → get new j ≡ option_map (too a) (get slots j)
    by (inl (e, same)) =
        let it = held_at slots entries a k whole its in
        let its_own : same_attempt it.0.attempt a ≡ true = ap (λ b. same_attempt b a) it.2 ∙ same_attempt-refl a in
        let mark = or_true it.0.wanted ∙ ap (λ t. it.0.wanted || t) (sym its_own) in
        set j ∙ if_same j k (option_map (marked true) (get slots k)) (get slots j) same
        ∙ ap (option_map (marked true)) it.1
        ∙ ap (λ w. Some (marked w it.0)) mark
        ∙ sym (ap (option_map (too a)) (ap (get slots) same ∙ it.1))
    by (inr (e, differ)) =
        set j ∙ if_other j k (option_map (marked true) (get slots k)) (get slots j) differ
        ∙ elsewhere j (λ there. differ (same_Some j k (sym there ∙ its)))

-- one more attempt of a list
pub one_more : (attempts : List AttemptId) (i : ℕ) (d : AttemptId) → i < length attempts → (o : Option Shelved)
    → option_map (too (get_or attempts i d))
    (option_map (λ s. marked (list_any (same_attempt s.attempt) (take i attempts)) s) o)
    ≡ option_map (λ s. marked (list_any (same_attempt s.attempt) (take (i + 1) attempts)) s) o
one_more attempts i d below None = refl
one_more attempts i d below (Some s) =
    ap (λ w. Some (marked w s)) (sym (list_any_more (same_attempt s.attempt) attempts i d below))
