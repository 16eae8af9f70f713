-- Names and attempts, each with its bytes: what stands beside a change is as before.
--     put_other, without_other      bytes of another name
--     staged_found, staged_other    the bytes of the attempt that was staged, and of another
use Rattle.std.specs.Prelude.{◌≡◌, ℕ, Bool, true, false, not, List, [], ◌∷◌, ◌++◌, Some, if◌then◌else◌, refl}
use Rattle.std.specs.Str.{bytes_eq}
use Rattle.std.proofs.Common.{sym, ap, ◌∙◌}
use Rattle.tez_ids.specs.declared.AttemptId.{AttemptId}
use Rattle.tez_ids.specs.Same.{same_attempt}
use Rattle.tez_ids.proofs.Sameness.{same_attempt-true, same_attempt-refl}
use Rattle.tez_record.proofs.BagLemmas.{same_record}
use Rattle.tez_ports.specs.Content.{Named, Staged, bytes_of, without, put, staged_at, without_attempt}

pub differ : (a b : List ℕ) → (a ≡ b → ⊥) → bytes_eq a b ≡ false
differ a b h = by (bytes_eq a b) refl where
  by : (x : Bool) → bytes_eq a b ≡ x → bytes_eq a b ≡ false
  by true e = absurd (h (same_record a b e))
  by false e = e

pub without_other : (n name : List ℕ) (entries : Named) → (name ≡ n → ⊥) → bytes_of n (without name entries) ≡ bytes_of n entries
without_other n name [] h = refl
without_other n name (x ∷ xs) h = by (bytes_eq x.0 name) refl (without_other n name xs h) where
  by : (b : Bool) → bytes_eq x.0 name ≡ b → bytes_of n (without name xs) ≡ bytes_of n xs
      → bytes_of n (if not b then x ∷ without name xs else without name xs) ≡ (if bytes_eq x.0 n then Some x.1 else bytes_of n xs)
  by true e ih = rw (differ x.0 n (λ s. h (sym (same_record x.0 name e) ∙ s))) ih
  by false e ih = ap (λ o. if bytes_eq x.0 n then Some x.1 else o) ih

append_other : (n name bytes : List ℕ) (entries : Named) → (name ≡ n → ⊥) → bytes_of n (entries ++ (name, bytes) ∷ []) ≡ bytes_of n entries
append_other n name bytes [] h = rw (differ name n h) refl
append_other n name bytes (x ∷ xs) h = ap (λ o. if bytes_eq x.0 n then Some x.1 else o) (append_other n name bytes xs h)

pub put_other : (n name bytes : List ℕ) (entries : Named) → (name ≡ n → ⊥) → bytes_of n (put name bytes entries) ≡ bytes_of n entries
put_other n name bytes entries h = append_other n name bytes (without name entries) h ∙ without_other n name entries h

-- ---- attempts

pub apart : (a b : AttemptId) → (a ≡ b → ⊥) → same_attempt a b ≡ false
apart a b h = by (same_attempt a b) refl where
  by : (x : Bool) → same_attempt a b ≡ x → same_attempt a b ≡ false
  by true e = absurd (h (same_attempt-true a b e))
  by false e = e

abbrev restaged : AttemptId → List ℕ → Staged → Staged
restaged a bytes staged = without_attempt a staged ++ (a, bytes) ∷ []

pub staged_found : (a : AttemptId) (bytes : List ℕ) (staged : Staged) → staged_at a (restaged a bytes staged) ≡ Some bytes
staged_found a bytes [] = rw (same_attempt-refl a) refl
staged_found a bytes (x ∷ xs) = by (same_attempt x.0 a) refl (staged_found a bytes xs) where
  by : (b : Bool) → same_attempt x.0 a ≡ b → staged_at a (restaged a bytes xs) ≡ Some bytes
      → staged_at a ((if not b then x ∷ without_attempt a xs else without_attempt a xs) ++ (a, bytes) ∷ []) ≡ Some bytes
  by true e ih = ih
  by false e ih = rw e ih

pub staged_other : (w a : AttemptId) (bytes : List ℕ) (staged : Staged) → (a ≡ w → ⊥) → staged_at w (restaged a bytes staged) ≡ staged_at w staged
staged_other w a bytes [] h = rw (apart a w h) refl
staged_other w a bytes (x ∷ xs) h = by (same_attempt x.0 a) refl (staged_other w a bytes xs h) where
  by : (b : Bool) → same_attempt x.0 a ≡ b → staged_at w (restaged a bytes xs) ≡ staged_at w xs
      → staged_at w ((if not b then x ∷ without_attempt a xs else without_attempt a xs) ++ (a, bytes) ∷ []) ≡ (if same_attempt x.0 w then Some x.1 else staged_at w xs)
  by true e ih = rw (apart x.0 w (λ s. h (sym (same_attempt-true x.0 a e) ∙ s))) ih
  by false e ih = ap (λ o. if same_attempt x.0 w then Some x.1 else o) ih
