-- Bytes that are cut at the first separator, and their pieces.
use Rattle.std.proofs.Common.{◌≡◌, ℕ, zero, suc, ◌+◌, ◌<◌, ◌==◌, cond, true, false, List, [], ◌∷◌, ◌++◌, length, take, drop, refl, sym, ap, ◌∙◌, arith, slice_index_or}
use Rattle.std.specs.List.{onto_first, list_any}
use Rattle.std.proofs.lemmas.Bool.{false_from_ne_true, or_parts}
use Rattle.std.proofs.lemmas.List.{take-append-drop, drop_more, get_or-take, get_or_default, length-take-le}
use Rattle.std.proofs.lemmas.List.Folds.{list_any_none}
use Rattle.memchr.specs.Find.{is_byte, Nowhere, Passes}
use Rattle.tez_lists.proofs.Cases.{cases}
use Rattle.tez_trace.specs.Said.{before, after, split, piece}
use Rattle.tez_trace.proofs.Numbers.{Without, same}

-- what a search for a byte tells
other : (s : ℕ) (bytes : List ℕ) (n k d : ℕ) → k < n → k < length bytes → Nowhere (Passes (is_byte s) bytes) 0 n → (slice_index_or bytes k d == s) ≡ false
other s bytes n k d low short nowhere = rw (get_or_default bytes k d 0 short) (false_from_ne_true (slice_index_or bytes k 0 == s) (nowhere k (omega arith) low))

pub without_none : (s : ℕ) (bytes : List ℕ) → Nowhere (Passes (is_byte s) bytes) 0 (length bytes) → Without s bytes
without_none s bytes nowhere = list_any_none (λ b. b == s) bytes (λ k d low. other s bytes (length bytes) k d low low nowhere)

pub without_before : (s : ℕ) (bytes : List ℕ) (at : ℕ) → at < length bytes → Nowhere (Passes (is_byte s) bytes) 0 at → Without s (take at bytes)
without_before s bytes at low nowhere =
    let size : length (take at bytes) ≡ at = length-take-le at bytes (omega arith) in
    list_any_none (λ b. b == s) (take at bytes) (λ k d short. rw (get_or-take at bytes k d (omega arith)) (other s bytes at k d (omega arith) (omega arith) nowhere))

eqb_eq : (a b : ℕ) → (a == b) ≡ true → a ≡ b
eqb_eq a b h = grind arith

pub parted : (s : ℕ) (bytes : List ℕ) (at : ℕ) → at < length bytes → Passes (is_byte s) bytes at → bytes ≡ take at bytes ++ s ∷ drop (at + 1) bytes
parted s bytes at low hit =
    sym (take-append-drop at bytes)
    ∙ ap (λ xs. take at bytes ++ xs) (drop_more bytes at 0 low ∙ ap (λ (b : ℕ). b ∷ drop (at + 1) bytes) (eqb_eq (slice_index_or bytes at 0) s hit))

pub before_all : (s : ℕ) (bytes : List ℕ) → Without s bytes → before s bytes ≡ bytes
before_all s [] h = refl
before_all s (b ∷ bytes) h =
    let parts = or_parts (b == s) (list_any (λ x. x == s) bytes) h in
    ap (λ t. cond t [] (b ∷ before s bytes)) parts.0 ∙ ap (λ (xs : List ℕ). b ∷ xs) (before_all s bytes parts.1)

pub after_all : (s : ℕ) (bytes : List ℕ) → Without s bytes → after s bytes ≡ []
after_all s [] h = refl
after_all s (b ∷ bytes) h =
    let parts = or_parts (b == s) (list_any (λ x. x == s) bytes) h in
    ap (λ t. cond t bytes (after s bytes)) parts.0 ∙ after_all s bytes parts.1

pub before_part : (s : ℕ) (a rest : List ℕ) → Without s a → before s (a ++ s ∷ rest) ≡ a
before_part s [] rest h = ap (λ t. cond t [] (s ∷ before s rest)) (same s)
before_part s (b ∷ a) rest h =
    let parts = or_parts (b == s) (list_any (λ x. x == s) a) h in
    ap (λ t. cond t [] (b ∷ before s (a ++ s ∷ rest))) parts.0 ∙ ap (λ (xs : List ℕ). b ∷ xs) (before_part s a rest parts.1)

pub after_part : (s : ℕ) (a rest : List ℕ) → Without s a → after s (a ++ s ∷ rest) ≡ rest
after_part s [] rest h = ap (λ t. cond t rest (after s rest)) (same s)
after_part s (b ∷ a) rest h =
    let parts = or_parts (b == s) (list_any (λ x. x == s) a) h in
    ap (λ t. cond t (a ++ s ∷ rest) (after s (a ++ s ∷ rest))) parts.0 ∙ after_part s a rest parts.1

pub before_found : (s : ℕ) (bytes : List ℕ) (at : ℕ) → at < length bytes → Nowhere (Passes (is_byte s) bytes) 0 at → Passes (is_byte s) bytes at → take at bytes ≡ before s bytes
before_found s bytes at low nowhere hit =
    sym (ap (before s) (parted s bytes at low hit) ∙ before_part s (take at bytes) (drop (at + 1) bytes) (without_before s bytes at low nowhere))

pub after_found : (s : ℕ) (bytes : List ℕ) (at : ℕ) → at < length bytes → Nowhere (Passes (is_byte s) bytes) 0 at → Passes (is_byte s) bytes at → drop (at + 1) bytes ≡ after s bytes
after_found s bytes at low nowhere hit =
    sym (ap (after s) (parted s bytes at low hit) ∙ after_part s (take at bytes) (drop (at + 1) bytes) (without_before s bytes at low nowhere))

-- the first piece, and those after it

onto_0 : (b : ℕ) (ps : List (List ℕ)) → piece (onto_first b ps) 0 ≡ b ∷ piece ps 0
onto_0 b [] = refl
onto_0 b (p ∷ ps) = refl

onto_more : (b : ℕ) (ps : List (List ℕ)) (i : ℕ) → piece (onto_first b ps) (suc i) ≡ piece ps (suc i)
onto_more b [] i = refl
onto_more b (p ∷ ps) i = refl

pub first_piece : (s : ℕ) (bytes : List ℕ) → before s bytes ≡ piece (split s bytes) 0
first_piece s [] = refl
first_piece s (b ∷ bytes) =
    cases (b == s) (λ e. rw e refl) (λ e. rw e (ap (λ (xs : List ℕ). b ∷ xs) (first_piece s bytes) ∙ sym (onto_0 b (split s bytes))))

none_left : (i : ℕ) → piece ([] ∷ []) i ≡ []
none_left zero = refl
none_left (suc i) = refl

pub later_piece : (s : ℕ) (bytes : List ℕ) (i : ℕ) → piece (split s (after s bytes)) i ≡ piece (split s bytes) (suc i)
later_piece s [] i = none_left i
later_piece s (b ∷ bytes) i =
    cases (b == s) (λ e. rw e refl) (λ e. rw e (later_piece s bytes i ∙ sym (onto_more b (split s bytes) i)))
