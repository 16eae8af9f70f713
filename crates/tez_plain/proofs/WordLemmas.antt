-- Words of a record, cut one by one.
--     first_cut       the first piece, where a byte parts words
--     no_cut          the only piece, where none does
--     word_done       a word more
--     last_word       the last one
use Rattle.std.proofs.Common.{◌≡◌, ℕ, zero, suc, ◌+◌, ◌<◌, ◌==◌, Bool, true, false, cond, List, [], ◌∷◌, ◌++◌, map, length, take, drop, length-drop, refl, sym, ap, ◌∙◌, subst, arith, append_assoc, filter, nat_lt, Some, None}
use Rattle.std.specs.List.{list_any, slice_split, position, position_or_len}
use Rattle.std.proofs.lemmas.Bool.{or_from, or_parts}
use Rattle.std.proofs.lemmas.List.{map-append}
use Rattle.std.proofs.lemmas.List.Elements.{filter-append}
use Rattle.std.proofs.lemmas.List.Splits.{slice_split_first}
use Rattle.tez_lists.proofs.Cases.{cases}
use Rattle.tez_record.specs.Line.{IsRecord}
use Rattle.tez_plain.specs.Words.{parts_words, counted, counted_words, IsFirstCut}
use Rattle.tez_plain.proofs.OrderLemmas.{no_place}

counted-cons : (p : List ℕ) (ps : List (List ℕ)) → counted (p ∷ ps) ≡ counted (p ∷ []) ++ counted ps
counted-cons p ps = ap (map (λ w. w ++ 9 ∷ 49 ∷ [])) (filter-append (λ w. nat_lt 0 (length w)) (p ∷ []) ps) ∙ map-append (λ w. w ++ 9 ∷ 49 ∷ []) (filter (λ w. nat_lt 0 (length w)) (p ∷ [])) (filter (λ w. nat_lt 0 (length w)) ps)

any_take : (q : ℕ → Bool) (n : ℕ) (bytes : List ℕ) → list_any q bytes ≡ false → list_any q (take n bytes) ≡ false
any_take q zero bytes h = refl
any_take q (suc n) [] h = refl
any_take q (suc n) (b ∷ bytes) h = let parts = or_parts (q b) (list_any q bytes) h in or_from (q b) (list_any q (take n bytes)) parts.0 (any_take q n bytes parts.1)

any_drop : (q : ℕ → Bool) (n : ℕ) (bytes : List ℕ) → list_any q bytes ≡ false → list_any q (drop n bytes) ≡ false
any_drop q zero bytes h = h
any_drop q (suc n) [] h = refl
any_drop q (suc n) (b ∷ bytes) h = any_drop q n bytes (or_parts (q b) (list_any q bytes) h).1

place_is : (test : ℕ → Bool) (xs : List ℕ) (n : ℕ) → position test xs ≡ Some n → position_or_len test xs ≡ n
place_is test xs n h = by (nat_lt (position_or_len test xs) (length xs)) h
  where
    by : (b : Bool) → cond b (Some (position_or_len test xs)) None ≡ Some n → position_or_len test xs ≡ n
    by true e = cc
    by false e = cc

pub first_cut : (bytes after : List ℕ) (end : ℕ) → IsRecord bytes → position parts_words bytes ≡ Some end → end < length bytes → after ≡ drop (end + 1) bytes → IsFirstCut bytes (take end bytes) after
first_cut bytes after end is_record found low is =
    let at = place_is parts_words bytes end found in
    rw is (record {
      split = slice_split_first parts_words bytes 0 (subst (λ n. n < length bytes) (sym at) low) ∙ ap (λ n. take n bytes ∷ slice_split parts_words (drop (n + 1) bytes)) at;
      word_is_record = any_take (λ b. b == 10) end bytes is_record;
      after_is_record = any_drop (λ b. b == 10) (end + 1) bytes is_record;
      shorter = omega (arith, length-drop (end + 1) bytes, low);
    })

past_all : (bytes : List ℕ) → length bytes ≡ position_or_len parts_words bytes → slice_split parts_words bytes ≡ bytes ∷ []
past_all [] h = refl
past_all (b ∷ bytes) h = cases (parts_words b)
    (λ t. let none : suc (length bytes) ≡ 0 = h ∙ (rw t refl) in absurd (omega (arith, none)))
    (λ f.
    let all : suc (length bytes) ≡ 1 + position_or_len parts_words bytes = h ∙ (rw f refl) in
    let rest : length bytes ≡ position_or_len parts_words bytes = omega (arith, all) in
    rw f (rw (past_all bytes rest) refl))

pub no_cut : (bytes : List ℕ) → position parts_words bytes ≡ None → slice_split parts_words bytes ≡ bytes ∷ []
no_cut bytes h = past_all bytes (no_place parts_words bytes h)

-- ---- words in turn

pub word_done : (made now all : List (List ℕ)) (rest word after : List ℕ) → IsFirstCut rest word after → now ≡ made ++ counted (word ∷ []) → made ++ counted_words rest ≡ all → now ++ counted_words after ≡ all
word_done made now all rest word after cut e walk =
    ap (λ xs. xs ++ counted_words after) e
    ∙ append_assoc made (counted (word ∷ [])) (counted_words after)
    ∙ ap (λ xs. made ++ xs) (sym (ap counted cut.split ∙ counted-cons word (slice_split parts_words after)))
    ∙ walk

pub last_word : (made all : List (List ℕ)) (rest : List ℕ) → slice_split parts_words rest ≡ rest ∷ [] → made ++ counted_words rest ≡ all → made ++ counted (rest ∷ []) ≡ all
last_word made all rest none walk = ap (λ pieces. made ++ counted pieces) (sym none) ∙ walk
