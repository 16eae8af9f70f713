-- Each list of bytes begins with the text of a trace, or is refused at a line.
use Rattle.std.proofs.Common.{◌≡◌, ℕ, zero, suc, ◌+◌, ◌<◌, ◌≤◌, ◌^◌, ◌==◌, true, false, List, [], ◌∷◌, ◌++◌, codes, length, refl, sym, ap, ◌∙◌, arith, length-append, true≢false, Option, Some, None, inl, inr, ◌⊎◌, ◌||◌}
use Rattle.std.specs.List.{list_any}
use Rattle.std.specs.Str.{bytes_eq}
use Rattle.std.proofs.lemmas.Bool.{or_from, cases_lt}
use Rattle.std.proofs.lemmas.Slice.Eq.{bytes_eq-Decides}
use Rattle.tez_lists.proofs.Cases.{cases}
use Rattle.tez_ids.specs.Fixed.{FitsFixed}
use Rattle.tez_ids.specs.declared.AttemptId.{AttemptId}
use Rattle.tez_events.specs.declared.Entry.{Entry}
use Rattle.tez_events.specs.declared.Entry.TheVariants.{Opened, Over, Stands, Carried, Kept, Configured, Queued, Placed, Fetched, ReadError, InputFailed, Ordered, Succeeded, Made, Failed, Killed, NodeLost, OutputLost, Rerun, Stopped, Committing, Ready, Asked, Settled, Published, CommitStarted, Finished, Purged}
use Rattle.tez_trace.specs.Text.{entry_line}
use Rattle.tez_trace.specs.Reading.{FitsEntry, IsReadOrRefused}
use Rattle.tez_trace.specs.Said.{before, after, read_entry}
use Rattle.tez_trace.proofs.Numbers.{Without}
use Rattle.tez_trace.proofs.Back.{line_back}
use Rattle.tez_trace.proofs.OneTrace.{text_step, got}
use Rattle.tez_trace.proofs.Refused.{lines_step}
use Rattle.tez_trace.proofs.Lines.{no_line, bad_line, nothing_said, otherwise_written}

-- ---- whether an entry fits

abbrev Known : Type 0 → Type 0
Known P = P ⊎ (P → ⊥)

below : (m n : ℕ) → Known (m < n)
below m n = by (cases_lt m n) where
  by : (m < n) ⊎ (n ≤ m) → Known (m < n)
  by (inl low) = inl low
  by (inr high) = inr (λ low. absurd (omega arith))

two : {P Q : Type 0} → Known P → Known Q → Known (P × Q)
two (inl p) (inl q) = inl (p, q)
two (inr p) q = inr (λ h. p h.0)
two (inl p) (inr q) = inr (λ h. q h.1)

three : {P Q R : Type 0} → Known P → Known Q → Known R → Known (P × Q × R)
three (inl p) (inl q) (inl r) = inl (p, q, r)
three (inr p) q r = inr (λ h. p h.0)
three (inl p) (inr q) r = inr (λ h. q h.1)
three (inl p) (inl q) (inr r) = inr (λ h. r h.2)

four : {P Q R S : Type 0} → Known P → Known Q → Known R → Known S → Known (P × Q × R × S)
four (inl p) (inl q) (inl r) (inl s) = inl (p, q, r, s)
four (inr p) q r s = inr (λ h. p h.0)
four (inl p) (inr q) r s = inr (λ h. q h.1)
four (inl p) (inl q) (inr r) s = inr (λ h. r h.2)
four (inl p) (inl q) (inl r) (inr s) = inr (λ h. s h.3)

fixed_or : (a : AttemptId) → Known (FitsFixed a)
fixed_or a = by (four (below a.epoch.0 (2 ^ 64)) (below a.task.vertex.0 (2 ^ 16)) (below a.task.index (2 ^ 32)) (below a.number (2 ^ 64))) where
  by : Known ((a.epoch.0 < 2 ^ 64) × (a.task.vertex.0 < 2 ^ 16) × (a.task.index < 2 ^ 32) × (a.number < 2 ^ 64)) → Known (FitsFixed a)
  by (inl (e, v, i, n)) = inl (record { epoch = e; vertex = v; index = i; number = n })
  by (inr unfit) = inr (λ h. unfit (h.epoch, h.vertex, h.index, h.number))

fits_or : (e : Entry) → Known (FitsEntry e)
fits_or (Opened epoch) = below epoch.0 (2 ^ 64)
fits_or Over = inl tt
fits_or (Stands v tasks base) = three (below v.0 (2 ^ 16)) (below tasks (2 ^ 32)) (below base (2 ^ 32))
fits_or (Carried t n) = three (below t.vertex.0 (2 ^ 16)) (below t.index (2 ^ 32)) (below n (2 ^ 64))
fits_or (Kept a) = fixed_or a
fits_or (Configured v tasks base) = three (below v.0 (2 ^ 16)) (below tasks (2 ^ 32)) (below base (2 ^ 32))
fits_or (Queued a) = fixed_or a
fits_or (Placed a id place) = three (fixed_or a) (below id.0 (2 ^ 128)) (below place (2 ^ 32))
fits_or (Fetched a edge input source) = four (fixed_or a) (below edge.0 (2 ^ 16)) (below input (2 ^ 32)) (fixed_or source)
fits_or (ReadError a edge input source) = four (fixed_or a) (below edge.0 (2 ^ 16)) (below input (2 ^ 32)) (fixed_or source)
fits_or (InputFailed a edge input source) = four (fixed_or a) (below edge.0 (2 ^ 16)) (below input (2 ^ 32)) (fixed_or source)
fits_or (Ordered a) = fixed_or a
fits_or (Succeeded a) = fixed_or a
fits_or (Made a edge bytes) = three (fixed_or a) (below edge.0 (2 ^ 16)) (below bytes (2 ^ 64))
fits_or (Failed a) = fixed_or a
fits_or (Killed a cause) = fixed_or a
fits_or (NodeLost slot life) = two (below slot (2 ^ 16)) (below life (2 ^ 64))
fits_or (OutputLost a) = fixed_or a
fits_or (Rerun a) = fixed_or a
fits_or (Stopped cause) = inl tt
fits_or (Committing sinks) = below sinks (2 ^ 64)
fits_or (Ready v) = below v.0 (2 ^ 16)
fits_or (Asked v) = below v.0 (2 ^ 16)
fits_or (Settled v) = below v.0 (2 ^ 16)
fits_or (Published v) = below v.0 (2 ^ 16)
fits_or CommitStarted = inl tt
fits_or Finished = inl tt
fits_or Purged = inl tt

-- ---- whether a line is that of an entry

IsLine : List ℕ → Type 0
IsLine line = (e : Entry) × (FitsEntry e × (entry_line e ≡ line))

IsNone : List ℕ → Type 0
IsNone line = (e : Entry) → FitsEntry e → entry_line e ≡ line → ⊥

line_or : (line : List ℕ) → IsLine line ⊎ IsNone line
unfolding IsLine IsNone
line_or line = by (read_entry line) refl where
  misfit : (e : Entry) → read_entry line ≡ Some e → (FitsEntry e → ⊥) → (f : Entry) → FitsEntry f → entry_line f ≡ line → ⊥
  misfit e some unfit f fits is =
      let same : f ≡ e = ap got (sym (line_back f fits) ∙ ap read_entry is ∙ some) in
      unfit (rw (sym same) fits)

  written : (e : Entry) → read_entry line ≡ Some e → Known (FitsEntry e) → IsLine line ⊎ IsNone line
  written e some (inr unfit) = inr (misfit e some unfit)
  written e some (inl fits) =
      cases (bytes_eq (entry_line e) line)
      (λ is. inl (e, (fits, (bytes_eq-Decides (entry_line e) line).0 is)))
      (λ differs. inr (otherwise_written line (entry_line e) (read_entry line) e refl some refl differs))

  by : (found : Option Entry) → read_entry line ≡ found → IsLine line ⊎ IsNone line
  by None none = inr (nothing_said line (read_entry line) refl none)
  by (Some e) some = written e some (fits_or e)

-- ---- the first line

before_without : (s : ℕ) (bytes : List ℕ) → Without s (before s bytes)
before_without s [] = refl
before_without s (b ∷ bytes) = cases (b == s) (λ e. rw e refl) (λ e. rw e (or_from (b == s) (list_any (λ x. x == s) (before s bytes)) e (before_without s bytes)))

eqb_eq : (a b : ℕ) → (a == b) ≡ true → a ≡ b
eqb_eq a b h = grind arith

joined : (s : ℕ) (bytes : List ℕ) → list_any (λ x. x == s) bytes ≡ true → bytes ≡ before s bytes ++ s ∷ after s bytes
joined s [] some = absurd (true≢false (sym some))
joined s (b ∷ bytes) some = cases (b == s)
    (λ e. rw e (ap (λ (x : ℕ). x ∷ bytes) (eqb_eq b s e)))
    (λ e. rw e (ap (λ (xs : List ℕ). b ∷ xs) (joined s bytes (rest e))))
  where
    rest : (b == s) ≡ false → list_any (λ x. x == s) bytes ≡ true
    rest e = ap (λ t. t || list_any (λ x. x == s) bytes) (sym e) ∙ some

-- ---- all lines

longer : (e : Entry) (line rest bytes : List ℕ) → FitsEntry e → entry_line e ≡ line → bytes ≡ line ++ 10 ∷ rest → IsReadOrRefused rest → IsReadOrRefused bytes
longer e line rest bytes fits is cut (inl (es, (all, (more, held)))) =
    inl (e ∷ es, ((fits, all), (more, text_step e es more ∙ ap (λ xs. entry_line e ++ 10 ∷ xs) held ∙ ap (λ xs. xs ++ 10 ∷ rest) is ∙ sym cut)))
longer e line rest bytes fits is cut (inr (n, r)) =
    inr (
      n + 1,
      record {
        lines = e ∷ r.lines;
        fit = (fits, r.fit);
        rest = r.rest;
        text = lines_step e r.lines r.rest ∙ ap (λ xs. entry_line e ++ 10 ∷ xs) r.text ∙ ap (λ xs. xs ++ 10 ∷ rest) is ∙ sym cut;
        line = omega (arith, r.line);
        stuck = r.stuck;
      },
    )

shorter : (line rest bytes : List ℕ) (n : ℕ) → bytes ≡ line ++ 10 ∷ rest → length bytes ≤ suc n → length rest ≤ n
shorter line rest bytes n cut few =
    let size : length bytes ≡ length line + length (10 ∷ rest) = ap length cut ∙ length-append line (10 ∷ rest) in omega arith

none_left : (bytes : List ℕ) → Without 10 bytes → IsReadOrRefused bytes
none_left bytes h = inr (1, record { lines = []; fit = tt; rest = bytes; text = refl; line = refl; stuck = no_line bytes h })

ended : (line rest bytes : List ℕ) → line ≡ codes "end" → bytes ≡ line ++ 10 ∷ rest → IsReadOrRefused bytes
ended line rest bytes is cut = inl ([], (tt, (rest, ap (λ xs. xs ++ 10 ∷ rest) (sym is) ∙ sym cut)))

stops : (line rest bytes : List ℕ) → Without 10 line → bytes_eq line (codes "end") ≡ false → IsNone line → bytes ≡ line ++ 10 ∷ rest → IsReadOrRefused bytes
unfolding IsNone
stops line rest bytes h differs none cut =
    inr (1, record { lines = []; fit = tt; rest = bytes; text = refl; line = refl; stuck = rw cut (bad_line line rest h differs none) })

next : (bytes : List ℕ) → bytes ≡ before 10 bytes ++ 10 ∷ after 10 bytes → bytes_eq (before 10 bytes) (codes "end") ≡ false → IsReadOrRefused (after 10 bytes)
    → IsLine (before 10 bytes) ⊎ IsNone (before 10 bytes) → IsReadOrRefused bytes
unfolding IsLine
next bytes cut differs later (inl (e, (fits, is))) = longer e (before 10 bytes) (after 10 bytes) bytes fits is cut later
next bytes cut differs later (inr none) = stops (before 10 bytes) (after 10 bytes) bytes (before_without 10 bytes) differs none cut

step : (bytes : List ℕ) → bytes ≡ before 10 bytes ++ 10 ∷ after 10 bytes → IsReadOrRefused (after 10 bytes) → IsReadOrRefused bytes
step bytes cut later =
    cases (bytes_eq (before 10 bytes) (codes "end"))
    (λ is. ended (before 10 bytes) (after 10 bytes) bytes ((bytes_eq-Decides (before 10 bytes) (codes "end")).0 is) cut)
    (λ differs. next bytes cut differs later (line_or (before 10 bytes)))

read_or : (n : ℕ) (bytes : List ℕ) → length bytes ≤ n → IsReadOrRefused bytes
read_or zero [] few = none_left [] refl
read_or zero (b ∷ bytes) few = absurd (omega arith)
read_or (suc n) bytes few =
    cases (list_any (λ x. x == 10) bytes)
    (λ some. step bytes (joined 10 bytes some) (read_or n (after 10 bytes) (shorter (before 10 bytes) (after 10 bytes) bytes n (joined 10 bytes some) few)))
    (λ none. none_left bytes none)

pub read_or_refused : (bytes : List ℕ) → IsReadOrRefused bytes
read_or_refused bytes = read_or (length bytes) bytes (omega arith)
