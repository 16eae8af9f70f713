-- An entry is told from the bytes.
use Rattle.std.specs.Prelude.{◌≡◌, ◌≢◌, ℕ, zero, suc, ◌+◌, ◌<◌, ◌≤◌, ◌^◌, List, [], ◌∷◌, ◌++◌, length, take, drop, Some, refl, slice_get}
use Rattle.std.specs.List.{slice_range}
use Rattle.std.specs.Int.{w32, to_le_bytes, from_le_bytes}
use Rattle.std.proofs.Common.{ap, sym, ◌∙◌, arith, length-append, length-drop, append_assoc, zero-add}
use Rattle.std.proofs.Math.Seq.{take-append_seam}
use Rattle.std.proofs.lemmas.Nat.{from_le_bytes-to_le_bytes_4}
use Rattle.std.proofs.lemmas.List.{append_cancel_left, take-append-drop, length-take}
use Rattle.tez_events.specs.declared.JournalRecord.{JournalRecord}
use Rattle.tez_events.specs.declared.JournalRecord.TheVariants.{Submitted, Opened, Configured, TaskSucceeded, AttemptFailed, CommitStarted, Finished, Version, SinkPublished}
use Rattle.tez_events.specs.Body.{body, FitsRecord}
use Rattle.tez_events.proofs.Pairs.{length-pairs}
use Rattle.tez_journal.specs.Text.{framed, entry}
use Rattle.tez_journal.specs.Reading.{IsFramed, IsNotFramed}

pub body_short : (r : JournalRecord) → FitsRecord r → length (body r) < 2 ^ 32
body_short (Submitted text) fits = let short = fits.0 in omega arith
body_short (Opened e) fits = omega arith
body_short (Configured v t b) fits = omega arith
body_short (TaskSucceeded a) fits = omega arith
body_short (AttemptFailed a) fits = omega arith
body_short (CommitStarted sums) fits = let few = fits.0 in let long = length-pairs sums in omega arith
body_short Finished fits = omega arith
body_short Version fits = omega arith
body_short (SinkPublished v) fits = omega arith

words : (m n : ℕ) → m < 2 ^ 32 → n < 2 ^ 32 → to_le_bytes w32 m ≡ to_le_bytes w32 n → m ≡ n
words m n a b same = sym (from_le_bytes-to_le_bytes_4 m a) ∙ ap (from_le_bytes w32) same ∙ from_le_bytes-to_le_bytes_4 n b

-- the length tells where the body ends
pub same_frame : (a b x y : List ℕ) → length a < 2 ^ 32 → length b < 2 ^ 32 → framed a ++ x ≡ framed b ++ y → (a ≡ b) × (x ≡ y)
same_frame a b x y short brief same =
    let long : length a ≡ length b = words (length a) (length b) short brief (ap (take 4) same) in
    let rest : a ++ x ≡ b ++ y = ap (drop 4) same in
    let front : a ≡ b = sym (take-append_seam a x) ∙ ap (take (length a)) rest ∙ ap (λ n. take n (b ++ y)) long ∙ take-append_seam b y in
    (front, append_cancel_left a x y (rest ∙ ap (λ c. c ++ y) (sym front)))

later_drop : (bytes : List ℕ) → drop 4 (drop 1 bytes) ≡ drop 5 bytes
later_drop [] = refl
later_drop (x ∷ xs) = refl

drop_none : (n : ℕ) → drop {A = ℕ} n [] ≡ []
drop_none zero = refl
drop_none (suc n) = refl

drop_drop : (m n : ℕ) (xs : List ℕ) → drop n (drop m xs) ≡ drop (m + n) xs
drop_drop zero n xs = ap (λ k. drop k xs) (sym (zero-add n))
drop_drop (suc m) n [] = drop_none n ∙ sym (drop_none (suc m + n))
drop_drop (suc m) n (x ∷ xs) = let e : suc (m + n) ≡ suc m + n = omega arith in drop_drop m n xs ∙ ap (λ k. drop k (x ∷ xs)) e

drop_more : (n : ℕ) (bytes : List ℕ) → drop n (drop 5 bytes) ≡ drop (5 + n) bytes
drop_more n bytes = drop_drop 5 n bytes

pub not_short : (bytes : List ℕ) → length bytes < 5 → IsNotFramed bytes
not_short bytes l b x more short same =
    let whole : length (drop 1 bytes) ≡ length (framed b ++ x ∷ more) = ap length same in
    let left = length-drop 1 bytes in
    let right = length-append (framed b) (x ∷ more) in
    omega arith

pub not_cut : (bytes : List ℕ) (len : ℕ) → len < 2 ^ 32 → to_le_bytes w32 len ≡ slice_range bytes 1 5 → length (drop 5 bytes) ≤ len → IsNotFramed bytes
not_cut bytes len fits is l b x more short same =
    let long : len ≡ length b = words len (length b) fits short (is ∙ ap (take 4) same) in
    let rest : drop 5 bytes ≡ b ++ x ∷ more = sym (later_drop bytes) ∙ ap (drop 4) same in
    let whole = ap length rest in
    let parts = length-append b (x ∷ more) in
    omega arith

pub is_framed : (bytes : List ℕ) (len : ℕ) → 5 ≤ length bytes → to_le_bytes w32 len ≡ slice_range bytes 1 5 → len < length (drop 5 bytes) → IsFramed bytes (take len (drop 5 bytes))
is_framed bytes len enough is l =
    let rest = drop 5 bytes in
    let long : length (take len rest) ≡ len = omega (arith, length-take len rest) in
    let dropped = length-drop 5 bytes in
    let inside : 5 + length (take len rest) < length bytes = omega arith in
    let parts : drop 1 bytes ≡ to_le_bytes w32 len ++ rest = sym (take-append-drop 4 (drop 1 bytes)) ∙ ap (λ w. w ++ drop 4 (drop 1 bytes)) (sym is) ∙ ap (λ w. to_le_bytes w32 len ++ w) (later_drop bytes) in
    let tail : rest ≡ take len rest ++ drop (5 + len) bytes = sym (take-append-drop len rest) ∙ ap (λ w. take len rest ++ w) (drop_more len bytes) in (
      inside,
      parts ∙ ap (λ w. to_le_bytes w32 len ++ w) tail ∙ sym (append_assoc (to_le_bytes w32 len) (take len rest) (drop (5 + len) bytes))
          ∙ ap (λ n. (to_le_bytes w32 n ++ take len rest) ++ drop (5 + n) bytes) (sym long),
    )

-- with an open gate in front
pub opened : (bytes : List ℕ) → slice_get bytes 0 ≡ Some 1 → bytes ≡ 1 ∷ drop 1 bytes
opened [] e = cc
opened (x ∷ xs) e = ap (λ y. y ∷ xs) (some x 1 e) where
  some : (a b : ℕ) → Some a ≡ Some b → a ≡ b
  some a b s = cc

pub framed_entry : (bytes b : List ℕ) (r : JournalRecord) → slice_get bytes 0 ≡ Some 1 → IsFramed bytes b → body r ≡ b → bytes ≡ entry r ++ drop (5 + length b) bytes
framed_entry bytes b r open_gate frame is = opened bytes open_gate ∙ ap (λ w. 1 ∷ w) (frame.1 ∙ ap (λ w. framed w ++ drop (5 + length b) bytes) (sym is))

pub not_body : (bytes b : List ℕ) → IsFramed bytes b → length b < 2 ^ 32 → ((r : JournalRecord) → FitsRecord r → body r ≢ b) → (r : JournalRecord) (x : ℕ) (more : List ℕ) → FitsRecord r → bytes ≢ entry r ++ x ∷ more
not_body bytes b frame short none r x more fits same =
    none r fits (sym (same_frame b (body r) (drop (5 + length b) bytes) (x ∷ more) short (body_short r fits) (sym frame.1 ∙ ap (drop 1) same)).0)
