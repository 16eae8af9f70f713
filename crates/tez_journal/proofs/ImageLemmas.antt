-- Images of the two writes of an append.
use Rattle.std.specs.Prelude.{◌≡◌, ◌≢◌, ◌⊎◌, ℕ, zero, suc, ◌+◌, ◌<◌, ◌≤◌, true, false, List, [], ◌∷◌, ◌++◌, length, take, drop, refl}
use Rattle.std.proofs.Common.{ap, sym, ◌∙◌, subst, arith, inl, inr, eqb, append_assoc, length-append}
use Rattle.std.proofs.Math.Seq.{take-append_seam, take-append-add, drop-append-add}
use Rattle.std.proofs.lemmas.Bool.Decides.{eqb_tells}
use Rattle.std.proofs.lemmas.List.{take-append-drop, take-take}
use Rattle.std.specs.List.{AllByRecursion}
use Rattle.tez_events.specs.declared.JournalRecord.{JournalRecord}
use Rattle.tez_events.specs.Body.{body, FitsRecord}
use Rattle.tez_journal.specs.Text.{framed, entry, entries, IsGated}
use Rattle.tez_ports.specs.Image.{IsTorn}
use Rattle.tez_journal.proofs.TextLemmas.{entries_more, fits_more}

-- the front up to the last gate tells the records
pub gated_front : (old new : List ℕ) (rs : List JournalRecord) (m : ℕ) → length (entries rs) + 1 ≤ m → take m new ≡ take m old → IsGated old rs → IsGated new rs
gated_front old new rs m l same g =
    let n = length (entries rs) + 1 in
    let front : take n old ≡ entries rs ++ g.gate ∷ [] = ap (take n) g.whole ∙ take-append-add (entries rs) (g.gate ∷ g.rest) 1 in
    let same_front : take n new ≡ take n old = sym (take-take n m new l) ∙ ap (take n) same ∙ take-take n m old l in
    record {
      fits = g.fits;
      gate = g.gate;
      rest = drop n new;
      closed = g.closed;
      whole = sym (take-append-drop n new) ∙ ap (λ w. w ++ drop n new) (same_front ∙ front) ∙ append_assoc (entries rs) (g.gate ∷ []) (drop n new);
    }

pub behind : (old new : List ℕ) (rs : List JournalRecord) (n : ℕ) → IsGated old rs → IsTorn (length (entries rs) + 1) n old new → IsGated new rs
behind old new rs n g torn = gated_front old new rs (length (entries rs) + 1) (omega arith) torn.before g

-- one byte, and then what stands behind it
one_byte : (k : ℕ) (new more : List ℕ) → k < length new → drop (k + 1) new ≡ more → (x : ℕ) × (drop k new ≡ x ∷ more)
one_byte k [] more l e = absurd (omega arith)
one_byte zero (y ∷ ys) more l e = (y, ap (λ w. y ∷ w) e)
one_byte (suc k) (y ∷ ys) more l e = let next : suc k + 1 ≡ suc (k + 1) = omega arith in one_byte k ys more (omega arith) (subst (λ m. drop m (y ∷ ys) ≡ more) next e)

not_open : (x : ℕ) → x ≡ 0 → x ≢ 1
not_open x e h = omega arith

-- behind the records an open gate, an entry, and a closed gate
pub opened : (bytes more : List ℕ) (rs : List JournalRecord) (r : JournalRecord) → AllByRecursion FitsRecord rs → FitsRecord r → bytes ≡ entries rs ++ 1 ∷ (framed (body r) ++ 0 ∷ more) → IsGated bytes (rs ++ r ∷ [])
opened bytes more rs r fits new_fits whole = record {
  fits = fits_more rs r fits new_fits;
  gate = 0;
  rest = more;
  closed = not_open 0 refl;
  whole = whole ∙ sym (append_assoc (entries rs) (entry r) (0 ∷ more)) ∙ ap (λ w. w ++ 0 ∷ more) (sym (entries_more rs r));
}

-- behind the records a gate, whatever it is, an entry, and a closed gate
pub gate_tells : (bytes more : List ℕ) (rs : List JournalRecord) (r : JournalRecord) (x : ℕ) → AllByRecursion FitsRecord rs → FitsRecord r → bytes ≡ entries rs ++ x ∷ (framed (body r) ++ 0 ∷ more)
    → IsGated bytes rs ⊎ IsGated bytes (rs ++ r ∷ [])
gate_tells bytes more rs r x fits new_fits whole = by (eqb_tells x 1) where
  tail : List ℕ
  tail = framed (body r) ++ 0 ∷ more

  by : ((eqb x 1 ≡ true) × (x ≡ 1)) ⊎ ((eqb x 1 ≡ false) × (x ≢ 1)) → IsGated bytes rs ⊎ IsGated bytes (rs ++ r ∷ [])
  by (inr e) = inl (record { fits = fits; gate = x; rest = tail; closed = e.1; whole = whole })
  by (inl e) = inr (opened bytes more rs r fits new_fits (whole ∙ ap (λ y. entries rs ++ y ∷ tail) e.1))

-- only the gate differs
pub gate_alone : (old new tail : List ℕ) (rs : List JournalRecord) (gate : ℕ) → old ≡ entries rs ++ gate ∷ tail → IsTorn (length (entries rs)) 1 old new → (x : ℕ) × (new ≡ entries rs ++ x ∷ tail)
gate_alone old new tail rs gate is torn = (there.0, whole) where
  long : length (entries rs) < length new
  long = let whole = ap length is in let parts = length-append (entries rs) (gate ∷ tail) in let grows = torn.no_shorter in omega arith

  there : (x : ℕ) × (drop (length (entries rs)) new ≡ x ∷ tail)
  there = one_byte (length (entries rs)) new tail long (torn.after ∙ ap (drop (length (entries rs) + 1)) is ∙ drop-append-add (entries rs) (gate ∷ tail) 1)

  front : take (length (entries rs)) new ≡ entries rs
  front = torn.before ∙ ap (take (length (entries rs))) is ∙ take-append_seam (entries rs) (gate ∷ tail)

  whole : new ≡ entries rs ++ there.0 ∷ tail
  whole = sym (take-append-drop (length (entries rs)) new) ∙ ap (λ w. w ++ drop (length (entries rs)) new) front ∙ ap (λ w. entries rs ++ w) there.1

pub at_gate : (old new more : List ℕ) (rs : List JournalRecord) (r : JournalRecord) (gate : ℕ) → AllByRecursion FitsRecord rs → FitsRecord r → old ≡ entries rs ++ gate ∷ (framed (body r) ++ 0 ∷ more) → IsTorn (length (entries rs)) 1 old new
    → IsGated new rs ⊎ IsGated new (rs ++ r ∷ [])
at_gate old new more rs r gate fits new_fits is torn =
    let there = gate_alone old new (framed (body r) ++ 0 ∷ more) rs gate is torn in
    gate_tells new more rs r there.0 fits new_fits there.1
