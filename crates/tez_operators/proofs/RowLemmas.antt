-- Rows as they are written.
--     mapped_more         a loop that adds a row of each element
--     signed_record       the text of a number is a record
--     cut_none, cut_some      words up to a byte that parts them
use Rattle.std.proofs.Common.{if◌then◌else◌, Bool, subst, true, false, ◌≡◌, ℕ, zero, suc, ◌+◌, ◌<◌, ◌^◌, ◌%◌, ◌==◌, List, [], ◌∷◌, ◌++◌, map, length, take, drop, refl, sym, ap, ◌∙◌, arith, ne_eqb, append_assoc, filter, decimal, ℤ, pos, negsuc, slice_index_or, nat_lt}
use Rattle.std.specs.Fmt.{signed_decimal}
use Rattle.std.specs.List.{list_any, slice_split}
use mir.Val.{SFits}
use mir.Syntax.{w128}
use Rattle.std.proofs.lemmas.Fmt.{decimal_by_steps_wide}
use Rattle.std.proofs.lemmas.Bool.{or_from, or_parts, false_from_ne_true}
use Rattle.std.proofs.lemmas.List.{take-append-drop, drop_more, get_or-take, get_or_default, length-take-le, map-append}
use Rattle.std.proofs.lemmas.List.Elements.{filter-append}
use Rattle.std.proofs.lemmas.List.Splits.{slice_split_none, slice_split_at}
use Rattle.std.proofs.lemmas.List.Folds.{list_any-append}
use Rattle.memchr.specs.Find.{is_byte2, Nowhere, Passes}
use Rattle.tez_record.specs.Line.{IsRecord}
use Rattle.tez_operators.specs.Words.{counted, counted_words}

pub mapped_more : {X : Type 0} (f : X → List ℕ) (made now all : List (List ℕ)) (left more : List X) (x : X) → left ≡ x ∷ more → now ≡ made ++ f x ∷ [] → made ++ map f left ≡ all → now ++ map f more ≡ all
mapped_more f made now all left more x first pushed is =
    ap (λ xs. xs ++ map f more) pushed ∙ append_assoc made (f x ∷ []) (map f more) ∙ ap (λ xs. made ++ map f xs) (sym first) ∙ is

-- ---- numbers as texts

digit_is_record : (d : ℕ) → IsRecord ((48 + d) ∷ [])
digit_is_record d = or_from (48 + d == 10) false (ne_eqb (48 + d) 10 (λ e. omega arith)) refl

decimal_is_record : (n : ℕ) → n < 10 ^ 64 → IsRecord (decimal n)
decimal_is_record n low = decimal_by_steps_wide (λ m ds. IsRecord ds) (λ m small. digit_is_record m)
    (λ m ds big all. list_any-append (λ b. b == 10) ds ((48 + m % 10) ∷ []) ∙ or_from (list_any (λ b. b == 10) ds) (list_any (λ b. b == 10) ((48 + m % 10) ∷ [])) all (digit_is_record (m % 10))) n low

pub signed_is_record : (z : ℤ) → SFits w128 z → IsRecord (signed_decimal z)
signed_is_record (pos n) fits = decimal_is_record n (let low : n < 2 ^ 127 = fits.sfits in omega arith)
signed_is_record (negsuc n) fits = or_from (45 == 10) (list_any (λ b. b == 10) (decimal (suc n))) refl (decimal_is_record (suc n) (let low : n < 2 ^ 127 = fits.sfits in omega arith))

-- ---- parts of a record are records

take_any : (q : ℕ → Bool) (n : ℕ) (bytes : List ℕ) → list_any q bytes ≡ false → list_any q (take n bytes) ≡ false
take_any q zero bytes h = refl
take_any q (suc n) [] h = refl
take_any q (suc n) (b ∷ bytes) h = let parts = or_parts (q b) (list_any q bytes) h in or_from (q b) (list_any q (take n bytes)) parts.0 (take_any q n bytes parts.1)

drop_any : (q : ℕ → Bool) (n : ℕ) (bytes : List ℕ) → list_any q bytes ≡ false → list_any q (drop n bytes) ≡ false
drop_any q zero bytes h = h
drop_any q (suc n) [] h = refl
drop_any q (suc n) (b ∷ bytes) h = drop_any q n bytes (or_parts (q b) (list_any q bytes) h).1

pub take_is_record : (n : ℕ) (bytes : List ℕ) → IsRecord bytes → IsRecord (take n bytes)
take_is_record n bytes h = take_any (λ b. b == 10) n bytes h

pub drop_is_record : (n : ℕ) (bytes : List ℕ) → IsRecord bytes → IsRecord (drop n bytes)
drop_is_record n bytes h = drop_any (λ b. b == 10) n bytes h

pub set_is_record : (ok : Bool) (old new k : List ℕ) → old ≡ [] → IsRecord k → new ≡ (if ok then old ++ k else old) → IsRecord new
set_is_record true old new k empty h e = subst IsRecord (sym (e ∙ ap (λ xs. xs ++ k) empty)) h
set_is_record false old new k empty h e = subst IsRecord (sym (e ∙ empty)) refl

-- ---- words

other : (bytes : List ℕ) (n k d : ℕ) → k < n → k < length bytes → Nowhere (Passes (is_byte2 32 9) bytes) 0 n → is_byte2 32 9 (slice_index_or bytes k d) ≡ false
other bytes n k d low short nowhere = rw (get_or_default bytes k d 0 short) (false_from_ne_true (is_byte2 32 9 (slice_index_or bytes k 0)) (nowhere k (omega arith) low))

pub cut_none : (bytes : List ℕ) → Nowhere (Passes (is_byte2 32 9) bytes) 0 (length bytes) → counted_words bytes ≡ counted (bytes ∷ [])
cut_none bytes nowhere = ap counted (slice_split_none (is_byte2 32 9) bytes (λ k d low. other bytes (length bytes) k d low low nowhere))

cut_at : (bytes : List ℕ) (at : ℕ) → at < length bytes → Nowhere (Passes (is_byte2 32 9) bytes) 0 at → Passes (is_byte2 32 9) bytes at
    → slice_split (is_byte2 32 9) bytes ≡ take at bytes ∷ slice_split (is_byte2 32 9) (drop (at + 1) bytes)
cut_at bytes at low nowhere hit =
    let size : length (take at bytes) ≡ at = length-take-le at bytes (omega arith) in
    let before : (k d : ℕ) → k < length (take at bytes) → is_byte2 32 9 (slice_index_or (take at bytes) k d) ≡ false =
    λ k d short. rw (get_or-take at bytes k d (omega arith)) (other bytes at k d (omega arith) (omega arith) nowhere) in
    let cut : bytes ≡ take at bytes ++ slice_index_or bytes at 0 ∷ drop (at + 1) bytes = sym (take-append-drop at bytes) ∙ ap (λ xs. take at bytes ++ xs) (drop_more bytes at 0 low) in
    ap (slice_split (is_byte2 32 9)) cut
    ∙ slice_split_at (is_byte2 32 9) (take at bytes) (slice_index_or bytes at 0) (drop (at + 1) bytes) (λ k d short. before k d short) hit

counted-cons : (p : List ℕ) (ps : List (List ℕ)) → counted (p ∷ ps) ≡ counted (p ∷ []) ++ counted ps
counted-cons p ps = ap (map (λ w. w ++ 9 ∷ 49 ∷ [])) (filter-append (λ w. nat_lt 0 (length w)) (p ∷ []) ps) ∙ map-append (λ w. w ++ 9 ∷ 49 ∷ []) (filter (λ w. nat_lt 0 (length w)) (p ∷ [])) (filter (λ w. nat_lt 0 (length w)) ps)

-- the words up to the first byte that parts them, and those after it
pub cut_some : (bytes : List ℕ) (at : ℕ) → at < length bytes → Nowhere (Passes (is_byte2 32 9) bytes) 0 at → Passes (is_byte2 32 9) bytes at
    → counted_words bytes ≡ counted (take at bytes ∷ []) ++ counted_words (drop (at + 1) bytes)
cut_some bytes at low nowhere hit = ap counted (cut_at bytes at low nowhere hit) ∙ counted-cons (take at bytes) (slice_split (is_byte2 32 9) (drop (at + 1) bytes))

pub words_more : (bytes : List ℕ) (at : ℕ) (made now all piece rest : List (List ℕ)) → counted_words bytes ≡ piece ++ rest → now ≡ made ++ piece → made ++ counted_words bytes ≡ all → now ++ rest ≡ all
words_more bytes at made now all piece rest cut pushed is = ap (λ xs. xs ++ rest) pushed ∙ append_assoc made piece rest ∙ ap (λ xs. made ++ xs) (sym cut) ∙ is
