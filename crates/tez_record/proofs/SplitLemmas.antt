-- Bytes that are cut at each byte c, by what a search for c tells.
use Rattle.std.proofs.Common.{◌≡◌, ℕ, ◌+◌, ◌<◌, ◌==◌, Bool, true, false, List, [], ◌∷◌, ◌++◌, length, take, drop, sym, ap, ◌∙◌, arith, slice_index_or, Option, Some, None, is_some, not, refl, IsTrue, ◌↔◌, true≢false}
use Rattle.std.specs.List.{slice_split}
use Rattle.std.proofs.lemmas.Bool.{false_from_ne_true}
use Rattle.std.proofs.lemmas.List.{take-append-drop, drop_more, get_or-take, get_or_default, length-take-le}
use Rattle.std.proofs.lemmas.List.Splits.{slice_split_none, slice_split_at}
use Rattle.std.proofs.lemmas.List.Folds.{list_any_none, list_any_at}
use Rattle.memchr.specs.Find.{IsFirstByte, is_byte, Nowhere, Passes}
use Rattle.tez_record.specs.Line.{IsRecord}

other : (c : ℕ) (bytes : List ℕ) (n k d : ℕ) → k < n → k < length bytes → Nowhere (Passes (is_byte c) bytes) 0 n → (slice_index_or bytes k d == c) ≡ false
other c bytes n k d low short nowhere = rw (get_or_default bytes k d 0 short) (false_from_ne_true (slice_index_or bytes k 0 == c) (nowhere k (omega arith) low))

-- bytes without c are one piece
pub split_none : (c : ℕ) (bytes : List ℕ) → Nowhere (Passes (is_byte c) bytes) 0 (length bytes) → slice_split (λ b. b == c) bytes ≡ bytes ∷ []
split_none c bytes nowhere = slice_split_none (λ b. b == c) bytes (λ k d low. other c bytes (length bytes) k d low low nowhere)

-- the first piece ends before the first c
pub split_some : (c : ℕ) (bytes : List ℕ) (at : ℕ) → at < length bytes → Nowhere (Passes (is_byte c) bytes) 0 at → Passes (is_byte c) bytes at
    → slice_split (λ b. b == c) bytes ≡ take at bytes ∷ slice_split (λ b. b == c) (drop (at + 1) bytes)
split_some c bytes at low nowhere hit =
    let size : length (take at bytes) ≡ at = length-take-le at bytes (omega arith) in
    let before : (k d : ℕ) → k < length (take at bytes) → (slice_index_or (take at bytes) k d == c) ≡ false =
    λ k d short. rw (get_or-take at bytes k d (omega arith)) (other c bytes at k d (omega arith) (omega arith) nowhere) in
    let cut : bytes ≡ take at bytes ++ slice_index_or bytes at 0 ∷ drop (at + 1) bytes = sym (take-append-drop at bytes) ∙ ap (λ xs. take at bytes ++ xs) (drop_more bytes at 0 low) in
    ap (slice_split (λ b. b == c)) cut
    ∙ slice_split_at (λ b. b == c) (take at bytes) (slice_index_or bytes at 0) (drop (at + 1) bytes) (λ k d short. before k d short) hit

-- a search for a line feed tells whether bytes are a record
pub tells_record : (bytes : List ℕ) (r : Option ℕ) (b : Bool) → IsFirstByte (is_byte 10) bytes r → is_some r ≡ not b → IsTrue b ↔ IsRecord bytes
tells_record bytes None true h e = (λ is. list_any_none (λ x. x == 10) bytes (λ k d low. other 10 bytes (length bytes) k d low low h), λ is. refl)
tells_record bytes None false h e = absurd (true≢false (sym e))
tells_record bytes (Some at) true h e = absurd (true≢false e)
tells_record bytes (Some at) false h e = (λ is. absurd (true≢false (sym is)), λ is. absurd (true≢false (sym (list_any_at (λ x. x == 10) bytes at 0 h.0.high h.1) ∙ is)))
