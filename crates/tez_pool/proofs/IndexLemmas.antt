-- What an index says of the places, and how it stays right.
use Rattle.std.specs.Prelude.{◌≡◌, ℕ, ◌+◌, ◌<◌, ◌≤◌, ◌⊎◌, ◌≢◌, Bool, true, false, cond, List, slice_get, Option, Some, None, refl}
use Rattle.std.specs.Option.{option_map_or}
use Rattle.std.specs.HashMap.{HashMap, get}
use Rattle.std.proofs.Common.{ap, sym, ◌∙◌, subst, arith, inl, inr, true≢false}
use Rattle.std.proofs.lemmas.Bool.{cases_lt}
use Rattle.std.proofs.lemmas.Bool.Decides.{nat_tests}
use Rattle.std.proofs.lemmas.Option.{same_Some}
use Rattle.tez_ids.specs.declared.AttemptId.{AttemptId}
use Rattle.tez_pool.specs.declared.place.Place.{Place}
use Rattle.tez_pool.specs.Table.{holds, place_held}
use Rattle.tez_pool.specs.Index.{equal, held_at, is_held_at, entry, IsIndex}
use Rattle.tez_pool.proofs.PlaceLemmas.{position_got, position_not_got, position_missed, held_from, holder_from, place_from}

pub equal-true : (a b : AttemptId) → equal a b ≡ true → a ≡ b
equal-true a b h = grind (arith, nat_tests)

equal-refl : (a : AttemptId) → equal a a ≡ true
equal-refl a = grind (arith, nat_tests)

pub held_if : (places : List Place) (p : ℕ) (a : AttemptId) → is_held_at places p a ≡ true → held_at places p ≡ Some a
held_if places p a h = by (slice_get places p) refl where
  by : (o : Option Place) → slice_get places p ≡ o → held_at places p ≡ Some a
  by None e = absurd (true≢false (sym h ∙ ap (λ o. option_map_or (holds a) o false) e))
  by (Some x) e = held_from places p x a e (sym (ap (λ o. option_map_or (holds a) o false) e) ∙ h)

pub is_held : (places : List Place) (p : ℕ) (a : AttemptId) → held_at places p ≡ Some a → is_held_at places p a ≡ true
is_held places p a h = let x = place_from places p a h in ap (λ o. option_map_or (holds a) o false) x.1 ∙ holder_from places p x.0 a x.1 h

-- whoever is at a place holds one
pub held_somewhere : (places : List Place) (p : ℕ) (a : AttemptId) → place_held places a ≡ None → held_at places p ≡ Some a → ⊥
held_somewhere places p a none h =
    let x = place_from places p a h in
    true≢false (sym (holder_from places p x.0 a x.1 h) ∙ position_missed (holds a) places none p x.0 x.1)

module _ {S : Type 0} where
  -- an attempt holds one place at most
  pub one_place : (places : List Place) (m : HashMap AttemptId ℕ S) (p q : ℕ) (a : AttemptId) → IsIndex places m → held_at places p ≡ Some a → held_at places q ≡ Some a → p ≡ q
  one_place places m p q a i hp hq = same_Some p q (sym (i.finds p a hp) ∙ i.finds q a hq)

  -- where it holds a place, that is the one
  pub held_there : (places : List Place) (m : HashMap AttemptId ℕ S) (p : ℕ) (a : AttemptId) → IsIndex places m → held_at places p ≡ Some a → place_held places a ≡ Some p
  held_there places m p a i h =
      let x = place_from places p a h in
      position_got (holds a) places p x.0 x.1 (holder_from places p x.0 a x.1 h) (λ q y e ne. not_held q y e ne (holds a y) refl)
    where
      not_held : (q : ℕ) (y : Place) → slice_get places q ≡ Some y → q ≢ p → (b : Bool) → holds a y ≡ b → holds a y ≡ false
      not_held q y e ne true t = absurd (ne (one_place places m q p a i (held_from places q y a e t) h))
      not_held q y e ne false t = t

  -- an attempt that the index does not find at a place of its own holds none
  pub held_nowhere : (places : List Place) (m : HashMap AttemptId ℕ S) (a : AttemptId) → IsIndex places m → ((p : ℕ) → get equal m a ≡ Some p → held_at places p ≡ Some a → ⊥) → place_held places a ≡ None
  held_nowhere places m a i none = position_not_got (holds a) places (λ q y e. not_held q y e (holds a y) refl) where
    not_held : (q : ℕ) (y : Place) → slice_get places q ≡ Some y → (b : Bool) → holds a y ≡ b → holds a y ≡ false
    not_held q y e true t = let h = held_from places q y a e t in absurd (none q (i.finds q a h) h)
    not_held q y e false t = t

  -- ---- making it again

  at_entry : (places : List Place) (was m n : HashMap AttemptId ℕ S) (at : ℕ) (a : AttemptId) → IsIndex places was → held_at places at ≡ Some a
      → ((p : ℕ) (b : AttemptId) → p < at → held_at places p ≡ Some b → get equal m b ≡ Some p)
      → (p : ℕ) (b : AttemptId) → p < at + 1 → held_at places p ≡ Some b → cond (equal a b) (Some at) (get equal m b) ≡ Some p
  at_entry places was m n at a i here before p b l h = by (equal a b) refl (cases_lt p at) where
    by : (e : Bool) → equal a b ≡ e → (p < at) ⊎ (at ≤ p) → cond (equal a b) (Some at) (get equal m b) ≡ Some p
    by true e s = ap (λ t. cond t (Some at) (get equal m b)) e ∙ ap Some (one_place places was at p b i (subst (λ x. held_at places at ≡ Some x) (equal-true a b e) here) h)
    by false e (inl l) = ap (λ t. cond t (Some at) (get equal m b)) e ∙ before p b l h
    by false e (inr g) =
        let same : at ≡ p = omega arith in
        let is : a ≡ b = same_Some a b (sym here ∙ ap (held_at places) same ∙ h) in
        absurd (true≢false (sym (subst (λ x. equal a x ≡ true) is (equal-refl a)) ∙ e))

  passed_over : (places : List Place) (m : HashMap AttemptId ℕ S) (at : ℕ) → held_at places at ≡ None
      → ((p : ℕ) (b : AttemptId) → p < at → held_at places p ≡ Some b → get equal m b ≡ Some p)
      → (p : ℕ) (b : AttemptId) → p < at + 1 → held_at places p ≡ Some b → get equal m b ≡ Some p
  passed_over places m at none before p b l h = by (cases_lt p at) where
    by : (p < at) ⊎ (at ≤ p) → get equal m b ≡ Some p
    by (inl l) = before p b l h
    by (inr g) = let same : p ≡ at = omega arith in let no_one : held_at places p ≡ None = ap (held_at places) same ∙ none in let both : None ≡ Some b = sym no_one ∙ h in cc

  -- one place more is entered
  pub entered : (places : List Place) (was m n : HashMap AttemptId ℕ S) (at : ℕ) (o : Option AttemptId) → IsIndex places was → held_at places at ≡ o
      → ((q : AttemptId) → get equal n q ≡ entry o at q (get equal m q))
      → ((p : ℕ) (b : AttemptId) → p < at → held_at places p ≡ Some b → get equal m b ≡ Some p)
      → (p : ℕ) (b : AttemptId) → p < at + 1 → held_at places p ≡ Some b → get equal n b ≡ Some p
  entered places was m n at None i here updates before p b l h = updates b ∙ passed_over places m at here before p b l h
  entered places was m n at (Some a) i here updates before p b l h = updates b ∙ at_entry places was m n at a i here before p b l h

  -- ---- an attempt that holds no place is noted

  pub noted : (places : List Place) (m n : HashMap AttemptId ℕ S) (at : ℕ) (a : AttemptId) → IsIndex places m → place_held places a ≡ None
      → ((q : AttemptId) → get equal n q ≡ cond (equal a q) (Some at) (get equal m q))
      → (p : ℕ) (b : AttemptId) → held_at places p ≡ Some b → get equal n b ≡ Some p
  noted places m n at a i none updates p b h = updates b ∙ by (equal a b) refl where
    by : (e : Bool) → equal a b ≡ e → cond (equal a b) (Some at) (get equal m b) ≡ Some p
    by true e = absurd (held_somewhere places p a none (subst (λ x. held_at places p ≡ Some x) (sym (equal-true a b e)) h))
    by false e = ap (λ t. cond t (Some at) (get equal m b)) e ∙ i.finds p b h
