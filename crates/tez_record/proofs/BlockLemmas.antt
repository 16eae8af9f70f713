-- A text and its lines.
use Rattle.std.proofs.Common.{◌≡◌, is_le, ℕ, ◌+◌, ◌-◌, ◌<◌, ◌≤◌, ◌^◌, length-append, ◌==◌, Bool, true, false, cond, List, [], ◌∷◌, ◌++◌, length, take, drop, refl, sym, ap, ◌∙◌, subst, arith, rules, zero, if◌then◌else◌, true≢false, append_assoc, slice_index_or, suc}
use Rattle.std.specs.List.{onto_first, list_any, AllByRecursion}
use Rattle.std.proofs.lemmas.Bool.{or_from, false_from_ne_true}
use Rattle.tez_record.specs.Line.{without_empty_last, lines, IsRecord}
use Rattle.tez_record.specs.Bag.{text, sort, place, compare}
use Rattle.tez_lists.proofs.Cases.{cases}
use Rattle.tez_record.proofs.LineLemmas.{pieces, some_pieces, keeps_first, lines-text}
use Rattle.memchr.specs.Find.{is_byte, Nowhere, Passes}
use Rattle.tez_record.specs.Block.{IsText}
use Rattle.tez_record.proofs.SplitLemmas.{split_none, split_some}

abbrev AllRecords : List (List ℕ) → Type 0
AllRecords rs = AllByRecursion IsRecord rs

onto_records : (b : ℕ) (ps : List (List ℕ)) → (b == 10) ≡ false → AllRecords ps → AllRecords (onto_first b ps)
onto_records b [] e h = (or_from (b == 10) false e refl, tt)
onto_records b (p ∷ ps) e h = (or_from (b == 10) (list_any (λ x. x == 10) p) e h.0, h.1)

all_pieces : (bytes : List ℕ) → AllRecords (pieces bytes)
all_pieces [] = (refl, tt)
all_pieces (b ∷ bytes) =
    let rest = all_pieces bytes in
    cases (b == 10) (λ e. rw e (refl, rest)) (λ e. rw e (onto_records b (pieces bytes) e rest))

all_stripped : (ps : List (List ℕ)) → AllRecords ps → AllRecords (without_empty_last ps)
all_stripped [] h = tt
all_stripped ([] ∷ []) h = tt
all_stripped ([] ∷ p ∷ ps) h = (h.0, all_stripped (p ∷ ps) h.1)
all_stripped ((b ∷ r) ∷ ps) h = (h.0, all_stripped ps h.1)

-- a line has no line feed
pub lines_are_records : (bytes : List ℕ) → AllRecords (lines bytes)
lines_are_records bytes = all_stripped (pieces bytes) (all_pieces bytes)

-- the bytes with a line feed at their end
pub closed : List ℕ → List ℕ
closed [] = []
closed (b ∷ []) = cond (b == 10) (b ∷ []) (b ∷ 10 ∷ [])
closed (b ∷ c ∷ bytes) = b ∷ closed (c ∷ bytes)

-- some byte is in these pieces
abbrev full : List (List ℕ) → Bool
full [] = false
full ([] ∷ []) = false
full ([] ∷ p ∷ ps) = true
full ((b ∷ r) ∷ ps) = true

full_after : (ps : List (List ℕ)) → 0 < length ps → full ([] ∷ ps) ≡ true
full_after [] h = absurd (omega arith)
full_after (p ∷ ps) h = refl

full_onto : (b : ℕ) (ps : List (List ℕ)) → full (onto_first b ps) ≡ true
full_onto b [] = refl
full_onto b (p ∷ ps) = refl

full_pieces : (b : ℕ) (bytes : List ℕ) → full (pieces (b ∷ bytes)) ≡ true
full_pieces b bytes = cases (b == 10) (λ e. rw e (full_after (pieces bytes) (some_pieces bytes))) (λ e. rw e (full_onto b (pieces bytes)))

onto_text : (b : ℕ) (ps : List (List ℕ)) → full ps ≡ true → text (without_empty_last (onto_first b ps)) ≡ b ∷ text (without_empty_last ps)
onto_text b [] h = absurd (true≢false (sym h))
onto_text b ([] ∷ []) h = absurd (true≢false (sym h))
onto_text b ([] ∷ p ∷ ps) h = refl
onto_text b ((a ∷ r) ∷ ps) h = refl

is_ten : (b : ℕ) → (b == 10) ≡ true → b ≡ 10
is_ten b e = grind arith

text_lines : (bytes : List ℕ) → text (lines bytes) ≡ closed bytes
unfolding closed
text_lines [] = refl
text_lines (b ∷ []) = cases (b == 10)
    (λ e. rw e (ap (λ x. x ∷ []) (sym (is_ten b e))))
    (λ e. rw e refl)
text_lines (b ∷ c ∷ bytes) =
    let rest = text_lines (c ∷ bytes) in
    cases (b == 10)
    (λ e. rw e (ap text (keeps_first [] (pieces (c ∷ bytes)) (some_pieces (c ∷ bytes)))
    ∙ ap (λ x. x ∷ text (lines (c ∷ bytes))) (sym (is_ten b e))
    ∙ ap (λ xs. b ∷ xs) rest))
    (λ e. rw e (onto_text b (pieces (c ∷ bytes)) (full_pieces c bytes) ∙ ap (λ xs. b ∷ xs) rest))

lines-closed : (bytes : List ℕ) → lines (closed bytes) ≡ lines bytes
lines-closed bytes = ap lines (sym (text_lines bytes)) ∙ lines-text (lines bytes) (lines_are_records bytes)

-- bytes that end with a line feed are their own text
closed_kept : (bytes : List ℕ) (n d : ℕ) → suc n ≡ length bytes → slice_index_or bytes n d ≡ 10 → closed bytes ≡ bytes
unfolding closed
closed_kept [] n d last e = absurd (omega arith)
closed_kept (b ∷ []) zero d last e = rw e refl
closed_kept (b ∷ []) (suc n) d last e = absurd (omega arith)
closed_kept (b ∷ c ∷ bytes) zero d last e = absurd (omega arith)
closed_kept (b ∷ c ∷ bytes) (suc n) d last e = ap (λ xs. b ∷ xs) (closed_kept (c ∷ bytes) n d (omega arith) e)

-- others want one
closed_more : (bytes : List ℕ) (n d : ℕ) → suc n ≡ length bytes → (slice_index_or bytes n d == 10) ≡ false → closed bytes ≡ bytes ++ 10 ∷ []
unfolding closed
closed_more [] n d last e = absurd (omega arith)
closed_more (b ∷ []) zero d last e = rw e refl
closed_more (b ∷ []) (suc n) d last e = absurd (omega arith)
closed_more (b ∷ c ∷ bytes) zero d last e = absurd (omega arith)
closed_more (b ∷ c ∷ bytes) (suc n) d last e = ap (λ xs. b ∷ xs) (closed_more (c ∷ bytes) n d (omega arith) e)

last_place : (n size : ℕ) → n ≡ size → (n ≡ 0 → ⊥) → suc (n - 1) ≡ size
last_place zero size e some = absurd (some refl)
last_place (suc n) size e some = omega arith

-- bytes whose last one, x, is a line feed
pub IsText-kept : (bytes : List ℕ) (n x : ℕ) → n ≡ length bytes → (n ≡ 0 → ⊥) → x ≡ slice_index_or bytes (n - 1) x → x ≡ 10 → IsText bytes
IsText-kept bytes n x size some read e =
    let last : suc (n - 1) ≡ length bytes = last_place n (length bytes) size some in
    text_lines bytes ∙ closed_kept bytes (n - 1) x last (sym read ∙ e)

-- the same where it is none
pub ended : (bytes : List ℕ) (n x : ℕ) → n ≡ length bytes → (n ≡ 0 → ⊥) → x ≡ slice_index_or bytes (n - 1) x → (x ≡ 10 → ⊥) → IsText (bytes ++ 10 ∷ []) × (lines (bytes ++ 10 ∷ []) ≡ lines bytes)
ended bytes n x size some read e =
    let last : suc (n - 1) ≡ length bytes = last_place n (length bytes) size some in
    let other : (slice_index_or bytes (n - 1) x == 10) ≡ false = ap (λ y. y == 10) (sym read) ∙ false_from_ne_true (x == 10) (λ t. e (is_ten x t)) in
    let whole : closed bytes ≡ bytes ++ 10 ∷ [] = closed_more bytes (n - 1) x last other in
    subst (λ xs. IsText xs × (lines xs ≡ lines bytes)) whole (ap text (lines-closed bytes) ∙ text_lines bytes, lines-closed bytes)

all_append : (rs : List (List ℕ)) (r : List ℕ) → AllRecords rs → IsRecord r → AllRecords (rs ++ r ∷ [])
all_append [] r h k = (k, tt)
all_append (s ∷ rs) r h k = (h.0, all_append rs r h.1 k)

text_append : (rs : List (List ℕ)) (r : List ℕ) → text (rs ++ r ∷ []) ≡ text rs ++ (r ++ 10 ∷ [])
text_append [] r = grind rules
text_append (s ∷ rs) r = ap (λ xs. (s ++ 10 ∷ []) ++ xs) (text_append rs r) ∙ sym (append_assoc (s ++ 10 ∷ []) (text rs) (r ++ 10 ∷ []))

-- a record after a text
added : (bytes r : List ℕ) → IsText bytes → IsRecord r → text (lines bytes ++ r ∷ []) ≡ bytes ++ (r ++ 10 ∷ [])
added bytes r whole h = text_append (lines bytes) r ∙ ap (λ xs. xs ++ (r ++ 10 ∷ [])) whole

pub lines-added : (bytes r : List ℕ) → IsText bytes → IsRecord r → lines (bytes ++ (r ++ 10 ∷ [])) ≡ lines bytes ++ r ∷ []
lines-added bytes r whole h = ap lines (sym (added bytes r whole h)) ∙ lines-text (lines bytes ++ r ∷ []) (all_append (lines bytes) r (lines_are_records bytes) h)

pub IsText-added : (bytes r : List ℕ) → IsText bytes → IsRecord r → IsText (bytes ++ (r ++ 10 ∷ []))
IsText-added bytes r whole h = ap text (lines-added bytes r whole h) ∙ added bytes r whole h

pub pushed : (ok : Bool) (bytes r new : List ℕ) → IsText bytes → IsRecord r → new ≡ (if ok then bytes ++ (r ++ 10 ∷ []) else bytes) → IsText new × (lines new ≡ (if ok then lines bytes ++ r ∷ [] else lines bytes))
pushed true bytes r new whole h e = rw e (IsText-added bytes r whole h, lines-added bytes r whole h)
pushed false bytes r new whole h e = rw e (whole, refl)

one_line : (ps : List (List ℕ)) (r : List ℕ) → 0 < length r → without_empty_last (r ∷ ps) ≡ r ∷ without_empty_last ps
one_line ps [] h = absurd (omega arith)
one_line ps (b ∷ r) h = refl

-- bytes without a line feed are one line
pub lines-none : (bytes : List ℕ) → 0 < length bytes → Nowhere (Passes (is_byte 10) bytes) 0 (length bytes) → lines bytes ≡ bytes ∷ []
lines-none bytes some nowhere = ap without_empty_last (split_none 10 bytes nowhere) ∙ one_line [] bytes some

-- the first line ends before the first line feed
pub lines-some : (bytes : List ℕ) (at : ℕ) → at < length bytes → Nowhere (Passes (is_byte 10) bytes) 0 at → Passes (is_byte 10) bytes at → lines bytes ≡ take at bytes ∷ lines (drop (at + 1) bytes)
lines-some bytes at low nowhere hit =
    ap without_empty_last (split_some 10 bytes at low nowhere hit)
    ∙ keeps_first (take at bytes) (pieces (drop (at + 1) bytes)) (some_pieces (drop (at + 1) bytes))

all_placed : (r : List ℕ) (bag : List (List ℕ)) → IsRecord r → AllRecords bag → AllRecords (place r bag)
all_placed r [] h all = (h, tt)
all_placed r (s ∷ bag) h all =
    let rest = all_placed r bag h all.1 in
    cases (is_le (compare r s)) (λ e. rw e (h, all)) (λ e. rw e (all.0, rest))

all_sorted : (rs : List (List ℕ)) → AllRecords rs → AllRecords (sort rs)
all_sorted [] all = tt
all_sorted (r ∷ rs) all = all_placed r (sort rs) all.0 (all_sorted rs all.1)

-- the lines in byte order are records
pub sorted_records : (bytes : List ℕ) (rs keys : List (List ℕ)) → lines bytes ≡ rs → keys ≡ sort rs → AllRecords keys
sorted_records bytes rs keys view order = rw (order, ← view) (all_sorted (lines bytes) (lines_are_records bytes))

-- the first line is a record
pub first_is_record : (bytes r : List ℕ) (rest : List (List ℕ)) → lines bytes ≡ r ∷ rest → IsRecord r
first_is_record bytes r rest e = (subst AllRecords e (lines_are_records bytes)).0

all_joined : (rs ss : List (List ℕ)) → AllRecords rs → AllRecords ss → AllRecords (rs ++ ss)
all_joined [] ss h k = k
all_joined (r ∷ rs) ss h k = (h.0, all_joined rs ss h.1 k)

text_joined : (rs ss : List (List ℕ)) → text (rs ++ ss) ≡ text rs ++ text ss
text_joined [] ss = refl
text_joined (r ∷ rs) ss = ap (λ xs. (r ++ 10 ∷ []) ++ xs) (text_joined rs ss) ∙ sym (append_assoc (r ++ 10 ∷ []) (text rs) (text ss))

-- a text and the text of records after it
joined : (ok : Bool) (bytes new more : List ℕ) (rs : List (List ℕ)) → IsText bytes → AllRecords rs → more ≡ text rs → new ≡ (if ok then bytes ++ more else bytes) → IsText new × (lines new ≡ (if ok then lines bytes ++ rs else lines bytes))
joined false bytes new more rs whole all m e = rw e (whole, refl)
joined true bytes new more rs whole all m e =
    let is : text (lines bytes ++ rs) ≡ new = text_joined (lines bytes) rs ∙ ap (λ xs. xs ++ text rs) whole ∙ ap (λ xs. bytes ++ xs) (sym m) ∙ sym e in
    let same : lines new ≡ lines bytes ++ rs = ap lines (sym is) ∙ lines-text (lines bytes ++ rs) (all_joined (lines bytes) rs (lines_are_records bytes) all) in
    (ap text same ∙ is, same)

pub appended : (ok : Bool) (bytes new more : List ℕ) (rs ss : List (List ℕ)) → IsText bytes → IsText more → lines bytes ≡ rs → lines more ≡ ss → new ≡ (if ok then bytes ++ more else bytes) → IsText new × (lines new ≡ (if ok then rs ++ ss else rs))
appended ok bytes new more rs ss whole other mine theirs e = rw (← mine, ← theirs) (joined ok bytes new more (lines more) whole (lines_are_records more) (sym other) e)

records_in_text : (rs : List (List ℕ)) → length rs ≤ length (text rs)
records_in_text [] = omega arith
records_in_text (r ∷ rs) = omega (arith, records_in_text rs, length-append (r ++ 10 ∷ []) (text rs), length-append r (10 ∷ []))

length-closed : (bytes : List ℕ) → length (closed bytes) ≤ length bytes + 1
unfolding closed
length-closed [] = omega arith
length-closed (b ∷ []) = cases (b == 10) (λ e. rw e (omega arith)) (λ e. rw e (omega arith))
length-closed (b ∷ c ∷ bytes) = let rest = length-closed (c ∷ bytes) in omega arith

-- there are at most as many lines as bytes, and one
pub length-lines : (bytes : List ℕ) → length (lines bytes) ≤ length bytes + 1
length-lines bytes =
    let low = records_in_text (lines bytes) in
    let high = length-closed bytes in
    let same : length (text (lines bytes)) ≡ length (closed bytes) = ap length (text_lines bytes) in
    omega arith

pub lines_fit : (bytes rest : List ℕ) → rest ≡ bytes → length bytes < 2 ^ 63 → 0 + length (lines rest) < 2 ^ 64
lines_fit bytes rest e low = let most = length-lines bytes in rw e (omega arith)
