-- The loop that reads entries.
use Rattle.std.specs.Prelude.{◌≡◌, ◌≢◌, ◌⊎◌, ℕ, ◌-◌, ◌<◌, ◌≤◌, List, [], ◌∷◌, ◌++◌, length, drop, Option, Some, None, refl, slice_get}
use Rattle.std.specs.List.{AllByRecursion}
use Rattle.std.proofs.Common.{ap, sym, ◌∙◌, arith, inl, inr, append-nil, append_assoc, length-append}
use Rattle.tez_lists.proofs.Flat.{flat-append}
use Rattle.tez_events.specs.declared.JournalRecord.{JournalRecord}
use Rattle.tez_events.specs.Body.{body, FitsRecord}
use Rattle.tez_events.proofs.Bodies.{body-injective}
use Rattle.tez_journal.specs.Text.{framed, entry, entries, IsGated, IsText}
use Rattle.tez_journal.specs.declared.text.Text.{Text}
use Rattle.tez_journal.specs.Reading.{IsPart, ReadsText, ReadsGated}
use Rattle.tez_journal.proofs.EntryLemmas.{body_short, same_frame}

pub entries_more : (rs : List JournalRecord) (r : JournalRecord) → entries (rs ++ r ∷ []) ≡ entries rs ++ entry r
entries_more rs r = flat-append entry rs (r ∷ []) ∙ ap (λ w. entries rs ++ w) (append-nil (entry r))

pub fits_more : (rs : List JournalRecord) (r : JournalRecord) → AllByRecursion FitsRecord rs → FitsRecord r → AllByRecursion FitsRecord (rs ++ r ∷ [])
fits_more [] r all here = (here, tt)
fits_more (q ∷ rs) r all here = (all.0, fits_more rs r all.1 here)

head : (x y : ℕ) (xs ys : List ℕ) → x ∷ xs ≡ y ∷ ys → x ≡ y
head x y xs ys e = cc

-- ---- one entry more

after_entry : (rest : List ℕ) (len : ℕ) (r : JournalRecord) (ps : List JournalRecord) → FitsRecord r → rest ≡ entry r ++ drop len rest → IsGated rest ps → (qs : List JournalRecord) × IsGated (drop len rest) qs
after_entry rest len r [] fits is gated = absurd (gated.closed (head gated.gate 1 gated.rest (framed (body r) ++ drop len rest) (sym gated.whole ∙ is)))
after_entry rest len r (p ∷ ps) fits is gated =
    let more = entries ps ++ gated.gate ∷ gated.rest in
    let same : framed (body r) ++ drop len rest ≡ framed (body p) ++ more = ap (drop 1) (sym is ∙ gated.whole ∙ append_assoc (entry p) (entries ps) (gated.gate ∷ gated.rest)) in
    let parts = same_frame (body r) (body p) (drop len rest) more (body_short r fits) (body_short p gated.fits.0) same in
    (ps, record { fits = gated.fits.1; gate = gated.gate; rest = gated.rest; closed = gated.closed; whole = parts.1 })

pub part_first : (bytes : List ℕ) → 0 < length bytes → IsPart bytes bytes []
part_first bytes some = record { fits = tt; some = some; whole = refl; later = λ qs g. (qs, g) }

pub part_next : (bytes rest : List ℕ) (rs : List JournalRecord) (len : ℕ) (r : JournalRecord) → IsPart bytes rest rs → FitsRecord r → 0 < length (drop len rest) → rest ≡ entry r ++ drop len rest
    → IsPart bytes (drop len rest) (rs ++ r ∷ [])
part_next bytes rest rs len r part fits some is = record {
  fits = fits_more rs r part.fits fits;
  some = some;
  whole = part.whole ∙ ap (λ w. entries rs ++ w) is ∙ sym (append_assoc (entries rs) (entry r) (drop len rest)) ∙ ap (λ w. w ++ drop len rest) (sym (entries_more rs r));
  later = λ qs g. let there = part.later qs g in after_entry rest len r there.0 fits is there.1;
}

pub part_end : (bytes rest : List ℕ) (rs : List JournalRecord) → IsPart bytes rest rs → slice_get rest 0 ≢ Some 1 → IsGated bytes rs
part_end bytes [] rs part closed = let some = part.some in absurd (omega arith)
part_end bytes (x ∷ xs) rs part closed = record { fits = part.fits; gate = x; rest = xs; closed = λ e. closed (ap Some e); whole = part.whole }

pub part_gate : (bytes rest : List ℕ) (rs : List JournalRecord) → IsPart bytes rest rs → length bytes - length rest ≡ length (entries rs)
part_gate bytes rest rs part = let whole = ap length part.whole in let parts = length-append (entries rs) rest in omega arith

-- no entry stands at an open gate
pub part_broken : (bytes rest : List ℕ) (rs : List JournalRecord) → IsPart bytes rest rs → slice_get rest 0 ≡ Some 1 → ((r : JournalRecord) (x : ℕ) (more : List ℕ) → FitsRecord r → rest ≢ entry r ++ x ∷ more)
    → (qs : List JournalRecord) → IsGated bytes qs → ⊥
part_broken bytes rest rs part open_gate none qs g = let there = part.later qs g in by there.0 there.1 where
  first : (xs : List ℕ) (x : ℕ) (ys : List ℕ) → xs ≡ x ∷ ys → slice_get xs 0 ≡ Some 1 → x ≡ 1
  first xs x ys e h = same x (sym (ap (λ w. slice_get w 0) e) ∙ h) where
    same : (a : ℕ) → Some a ≡ Some 1 → a ≡ 1
    same a s = cc

  by : (ps : List JournalRecord) → IsGated rest ps → ⊥
  by [] gated = gated.closed (first rest gated.gate gated.rest gated.whole open_gate)
  by (p ∷ ps) gated = tail (entries ps) refl where
    tail : (es : List ℕ) → entries ps ≡ es → ⊥
    tail [] e = none p gated.gate gated.rest gated.fits.0 (gated.whole ∙ append_assoc (entry p) (entries ps) (gated.gate ∷ gated.rest) ∙ ap (λ w. entry p ++ (w ++ gated.gate ∷ gated.rest)) e)
    tail (y ∷ ys) e = none p y (ys ++ gated.gate ∷ gated.rest) gated.fits.0 (gated.whole ∙ append_assoc (entry p) (entries ps) (gated.gate ∷ gated.rest) ∙ ap (λ w. entry p ++ (w ++ gated.gate ∷ gated.rest)) e)

-- ---- a text tells its records

gated_one : (bytes : List ℕ) (ps qs : List JournalRecord) → IsGated bytes ps → IsGated bytes qs → ps ≡ qs
gated_one bytes [] [] g h = refl
gated_one bytes [] (q ∷ qs) g h = absurd (g.closed (head g.gate 1 g.rest (framed (body q) ++ (entries qs ++ h.gate ∷ h.rest)) (sym g.whole ∙ h.whole ∙ append_assoc (entry q) (entries qs) (h.gate ∷ h.rest))))
gated_one bytes (p ∷ ps) [] g h = absurd (h.closed (head h.gate 1 h.rest (framed (body p) ++ (entries ps ++ g.gate ∷ g.rest)) (sym h.whole ∙ g.whole ∙ append_assoc (entry p) (entries ps) (g.gate ∷ g.rest))))
gated_one bytes (p ∷ ps) (q ∷ qs) g h =
    let more = entries ps ++ g.gate ∷ g.rest in
    let others = entries qs ++ h.gate ∷ h.rest in
    let same : framed (body p) ++ more ≡ framed (body q) ++ others =
    ap (drop 1) (sym (append_assoc (entry p) (entries ps) (g.gate ∷ g.rest)) ∙ sym g.whole ∙ h.whole ∙ append_assoc (entry q) (entries qs) (h.gate ∷ h.rest)) in
    let parts = same_frame (body p) (body q) more others (body_short p g.fits.0) (body_short q h.fits.0) same in
    let here : p ≡ q = body-injective p q g.fits.0 h.fits.0 parts.0 in
    let rest : ps ≡ qs = gated_one more ps qs (record { fits = g.fits.1; gate = g.gate; rest = g.rest; closed = g.closed; whole = refl }) (record { fits = h.fits.1; gate = h.gate; rest = h.rest; closed = h.closed; whole = parts.1 }) in
    ap (λ r. r ∷ ps) here ∙ ap (λ rs. q ∷ rs) rest

-- a text of one byte has no entry
pub small : (bytes : List ℕ) (rs : List JournalRecord) → length bytes ≤ 1 → IsGated bytes rs → rs ≡ []
small bytes [] l g = refl
small bytes (r ∷ rs) l g =
    let whole = ap length (g.whole ∙ append_assoc (entry r) (entries rs) (g.gate ∷ g.rest)) in
    let parts = length-append (entry r) (entries rs ++ g.gate ∷ g.rest) in
    absurd (omega arith)

pub text_one : (bytes : List ℕ) (ps qs : List JournalRecord) → IsText bytes ps → IsText bytes qs → ps ≡ qs
text_one bytes ps qs (inl a) (inl b) = a.1 ∙ sym b.1
text_one bytes ps qs (inl a) (inr h) = a.1 ∙ sym (small bytes qs a.0 h)
text_one bytes ps qs (inr g) (inl b) = small bytes ps b.0 g ∙ sym b.1
text_one bytes ps qs (inr g) (inr h) = gated_one bytes ps qs g h

pub text_from_gated : (bytes : List ℕ) (found : Option Text) → 1 < length bytes → ReadsGated bytes found → ReadsText bytes found
text_from_gated bytes (Some t) l reads = (inr reads.0, reads.1)
text_from_gated bytes None l reads = λ rs. by rs where
  by : (rs : List JournalRecord) → ((length bytes ≤ 1) × (rs ≡ [])) ⊎ IsGated bytes rs → ⊥
  by rs (inl short) = let le = short.0 in omega arith
  by rs (inr gated) = reads rs gated

pub text_of_none : (bytes : List ℕ) (rs : List JournalRecord) (gate : ℕ) → length bytes ≤ 1 → rs ≡ [] → gate ≡ 0 → IsText bytes rs × (gate ≡ length (entries rs))
text_of_none bytes rs gate l none zero_gate = (inl (l, none), zero_gate ∙ sym (ap (λ qs. length (entries qs)) none))
