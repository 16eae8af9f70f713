-- What the calls of a journal do to its disk.
use Rattle.std.specs.Prelude.{◌≡◌, ℕ, ◌+◌, ◌≤◌, List, [], ◌∷◌, ◌++◌, length, take, drop, refl}
use Rattle.std.specs.List.{AllByRecursion}
use Rattle.std.proofs.Common.{ap, sym, ◌∙◌, subst, arith, inl, inr, append_assoc, length-append}
use Rattle.std.proofs.Math.Seq.{take-append_seam, take-append-add, drop-append-add}
use Rattle.tez_events.specs.declared.JournalRecord.{JournalRecord}
use Rattle.tez_events.specs.Body.{body, FitsRecord}
use Rattle.tez_ports.specs.Image.{Disk, IsTorn, overwrite, pends, writes, settled, syncs}
use Rattle.tez_ports.proofs.ImageLemmas.{torn_alone, image_splits, image_unwritten}
use Rattle.tez_journal.specs.Text.{framed, entry, entries, IsGated}
use Rattle.tez_journal.specs.Crash.{Leaves, IsOneOf, IsOneOfThree, IsEitherGated, IsAllOrAllButLast, EndsAt, IsSafe, IsLaid}
use Rattle.tez_journal.specs.Gate.{IsBodyOf}
use Rattle.tez_journal.proofs.TextLemmas.{entries_more}
use Rattle.tez_journal.proofs.ImageLemmas.{gated_front, opened, at_gate}

-- ---- an entry behind the last gate

pub behind_the_gate : (bytes : List ℕ) (rs : List JournalRecord) (gate : ℕ) → EndsAt gate rs bytes → gate + 1 ≤ length bytes
behind_the_gate bytes rs gate ends =
    let whole = ap length ends.0.whole in
    let parts = length-append (entries rs) (ends.0.gate ∷ ends.0.rest) in
    let place = ends.1 in
    omega arith

-- the bytes up to the last gate
front : (bytes : List ℕ) (rs : List JournalRecord) (gate : ℕ) (g : IsGated bytes rs) → gate ≡ length (entries rs) → take (gate + 1) bytes ≡ entries rs ++ g.gate ∷ []
front bytes rs gate g place = ap (λ n. take (n + 1) bytes) place ∙ ap (take (length (entries rs) + 1)) g.whole ∙ take-append-add (entries rs) (g.gate ∷ g.rest) 1

pub lays : (d : Disk) (b : List ℕ) (rs : List JournalRecord) (gate : ℕ) → EndsAt gate rs d.read → IsLaid rs b (syncs (writes (gate + 1) (framed b ++ 0 ∷ []) d))
lays d b rs gate ends = record { fits = g.fits; gate = g.gate; more = more; closed = g.closed; whole = ap settled whole } where
  g : IsGated d.read rs
  g = ends.0

  bytes : List ℕ
  bytes = framed b ++ 0 ∷ []

  more : List ℕ
  more = drop (gate + 1 + length bytes) d.read

  whole : overwrite (gate + 1) bytes d.read ≡ entries rs ++ g.gate ∷ (framed b ++ 0 ∷ more)
  whole = ap (λ w. (w ++ bytes) ++ more) (front d.read rs gate g ends.1) ∙ append_assoc (entries rs ++ g.gate ∷ []) bytes more ∙ append_assoc (entries rs) (g.gate ∷ []) (bytes ++ more)
      ∙ ap (λ w. entries rs ++ g.gate ∷ w) (append_assoc (framed b) (0 ∷ []) more)

pub lays_read : (d : Disk) (b : List ℕ) (rs : List JournalRecord) (gate : ℕ) → EndsAt gate rs d.read → IsGated (overwrite (gate + 1) (framed b ++ 0 ∷ []) d.read) rs
lays_read d b rs gate ends = let laid = lays d b rs gate ends in record {
  fits = laid.fits;
  gate = laid.gate;
  rest = framed b ++ 0 ∷ laid.more;
  closed = laid.closed;
  whole = ap (λ (e : Disk). e.read) laid.whole;
}

pub torn_behind : (read torn : List ℕ) (rs : List JournalRecord) (gate n : ℕ) → EndsAt gate rs read → IsTorn (gate + 1) n read torn → IsGated torn rs
torn_behind read torn rs gate n ends t = let place = ends.1 in gated_front read torn rs (gate + 1) (omega arith) t.before ends.0

-- the last gate stands behind the records that are kept
kept_before : (kept rs : List JournalRecord) (gate : ℕ) → gate ≡ length (entries rs) → IsAllOrAllButLast kept rs → length (entries kept) + 1 ≤ gate + 1
kept_before kept rs gate place (inl e) = let same = ap (λ qs. length (entries qs)) e in omega arith
kept_before kept rs gate place (inr e) =
    let whole = ap (λ qs. length (entries qs)) e.1 ∙ ap length (entries_more kept e.0) in
    let parts = length-append (entries kept) (entry e.0) in
    omega arith

pub safe_behind : (d : Disk) (read : List ℕ) (kept rs : List JournalRecord) (gate n : ℕ) → gate ≡ length (entries rs) → IsSafe gate kept rs d → Leaves (IsEitherGated kept rs) (pends (gate + 1, n) read d)
safe_behind d read kept rs gate n place safe image is =
    let inside = safe.inside in
    let behind = safe.behind in
    let parts = image_splits d.stable image d.pending (gate + 1) n (omega arith) (omega arith) is in
    by parts.0 parts.2 (safe.images parts.0 parts.1) where
      by : (mid : List ℕ) → IsTorn (gate + 1) n mid image → IsEitherGated kept rs mid → IsEitherGated kept rs image
      by mid torn (inl g) = inl (gated_front mid image kept (gate + 1) (kept_before kept rs gate place safe.last) torn.before g)
      by mid torn (inr g) = inr (gated_front mid image rs (gate + 1) (omega arith) torn.before g)

-- with nothing pending
pub settled_leaves : (bytes : List ℕ) (P : List ℕ → Type 0) → P bytes → Leaves P (settled bytes)
settled_leaves bytes P there image is = subst P (sym (image_unwritten bytes image is)) there

pub settled_safe : (bytes : List ℕ) (rs : List JournalRecord) (gate : ℕ) → EndsAt gate rs bytes → IsSafe gate rs rs (settled bytes)
settled_safe bytes rs gate ends = record {
  last = inl refl;
  images = settled_leaves bytes (IsEitherGated rs rs) (inr ends.0);
  inside = let l = behind_the_gate bytes rs gate ends in omega arith;
  behind = omega arith;
}

-- ---- the gate in front of an entry

-- the records, a gate, an entry behind it, and a closed gate
abbrev pub waiting : List JournalRecord → ℕ → JournalRecord → List ℕ → List ℕ
waiting rs x r more = entries rs ++ x ∷ (framed (body r) ++ 0 ∷ more)

module _ (rs : List JournalRecord) (r : JournalRecord) (gate x : ℕ) (more : List ℕ) (fits : AllByRecursion FitsRecord rs) (new_fits : FitsRecord r) (place : gate ≡ length (entries rs)) where
  length_waiting : length (waiting rs x r more) ≡ gate + 1 + (5 + length (body r) + length more)
  length_waiting = let a = length-append (entries rs) (x ∷ (framed (body r) ++ 0 ∷ more)) in let b = length-append (framed (body r)) (0 ∷ more) in omega arith

  pub place_more : gate + (length (body r) + 5) ≡ length (entries (rs ++ r ∷ []))
  place_more = let whole = ap length (entries_more rs r) in let parts = length-append (entries rs) (entry r) in omega arith

  pub opens_gate : IsGated (overwrite gate (1 ∷ []) (waiting rs x r more)) (rs ++ r ∷ [])
  opens_gate = opened (overwrite gate (1 ∷ []) (waiting rs x r more)) more rs r fits new_fits
      (ap (λ n. (take n (waiting rs x r more) ++ 1 ∷ []) ++ drop (n + 1) (waiting rs x r more)) place ∙ ap (λ w. (w ++ 1 ∷ []) ++ drop (length (entries rs) + 1) (waiting rs x r more)) (take-append_seam (entries rs) (x ∷ (framed (body r) ++ 0 ∷ more)))
      ∙ ap (λ w. (entries rs ++ 1 ∷ []) ++ w) (drop-append-add (entries rs) (x ∷ (framed (body r) ++ 0 ∷ more)) 1) ∙ append_assoc (entries rs) (1 ∷ []) (framed (body r) ++ 0 ∷ more))

  pub torn_gate : (torn : List ℕ) → IsTorn gate 1 (waiting rs x r more) torn → IsEitherGated rs (rs ++ r ∷ []) torn
  torn_gate torn t = at_gate (waiting rs x r more) torn more rs r x fits new_fits refl (subst (λ n. IsTorn n 1 (waiting rs x r more) torn) place t)

  pub gate_leaves : (read : List ℕ) → Leaves (IsEitherGated rs (rs ++ r ∷ [])) (pends (gate, 1) read (settled (waiting rs x r more)))
  gate_leaves read image is = torn_gate image (torn_alone (waiting rs x r more) image gate 1 (omega (arith, length_waiting)) is)

  pub gate_safe : IsSafe (gate + (length (body r) + 5)) rs (rs ++ r ∷ []) (writes gate (1 ∷ []) (settled (waiting rs x r more)))
  gate_safe = record {
    last = inr (r, refl);
    images = gate_leaves (overwrite gate (1 ∷ []) (waiting rs x r more));
    inside = omega (arith, length_waiting);
    behind = omega arith;
  }

module _ (rs : List JournalRecord) (r : JournalRecord) (b : List ℕ) (gate : ℕ) (d : Disk) (laid : IsLaid rs b d) (is : IsBodyOf r b) (place : gate ≡ length (entries rs)) where
  same_disk : d ≡ settled (entries rs ++ laid.gate ∷ (framed (body r) ++ 0 ∷ laid.more))
  same_disk = laid.whole ∙ ap (λ w. settled (entries rs ++ laid.gate ∷ (framed w ++ 0 ∷ laid.more))) (sym is.1)

  longer : gate + (length (body r) + 5) ≡ gate + (length b + 5)
  longer = ap (λ w. gate + (length w + 5)) is.1

  pub laid_read : IsGated d.read rs
  laid_read = record { fits = laid.fits; gate = laid.gate; rest = framed b ++ 0 ∷ laid.more; closed = laid.closed; whole = ap (λ (e : Disk). e.read) laid.whole }

  pub laid_leaves : Leaves (IsEitherGated rs (rs ++ r ∷ [])) d
  laid_leaves = subst (Leaves (IsEitherGated rs (rs ++ r ∷ []))) (sym laid.whole)
      (settled_leaves (entries rs ++ laid.gate ∷ (framed b ++ 0 ∷ laid.more)) (IsEitherGated rs (rs ++ r ∷ [])) (inl (record { fits = laid.fits; gate = laid.gate; rest = framed b ++ 0 ∷ laid.more; closed = laid.closed; whole = refl })))

  pub laid_opens : EndsAt (gate + (length b + 5)) (rs ++ r ∷ []) (writes gate (1 ∷ []) d).read
  laid_opens = (
    subst (λ (e : Disk). IsGated (overwrite gate (1 ∷ []) e.read) (rs ++ r ∷ [])) (sym same_disk) (opens_gate rs r gate laid.gate laid.more laid.fits is.0 place),
    sym longer ∙ place_more rs r gate laid.gate laid.more laid.fits is.0 place,
  )

  pub laid_safe : IsSafe (gate + (length b + 5)) rs (rs ++ r ∷ []) (writes gate (1 ∷ []) d)
  laid_safe = subst (λ n. IsSafe n rs (rs ++ r ∷ []) (writes gate (1 ∷ []) d)) longer
      (subst (λ e. IsSafe (gate + (length (body r) + 5)) rs (rs ++ r ∷ []) (writes gate (1 ∷ []) e)) (sym same_disk) (gate_safe rs r gate laid.gate laid.more laid.fits is.0 place))

  pub laid_torn : (torn : List ℕ) → IsTorn gate 1 d.read torn → IsEitherGated rs (rs ++ r ∷ []) torn
  laid_torn torn t = torn_gate rs r gate laid.gate laid.more laid.fits is.0 place torn (subst (λ (e : Disk). IsTorn gate 1 e.read torn) same_disk t)

  pub laid_torn_leaves : (torn : List ℕ) → Leaves (IsEitherGated rs (rs ++ r ∷ [])) (pends (gate, 1) torn d)
  laid_torn_leaves torn = subst (λ e. Leaves (IsEitherGated rs (rs ++ r ∷ [])) (pends (gate, 1) torn e)) (sym same_disk) (gate_leaves rs r gate laid.gate laid.more laid.fits is.0 place torn)

-- ---- what a text of either, or of one of three, is

pub gated_one : (kept rs : List JournalRecord) (bytes : List ℕ) → IsEitherGated kept rs bytes → IsOneOf kept rs bytes
gated_one kept rs bytes (inl g) = inl (inr g)
gated_one kept rs bytes (inr g) = inr (inr g)

pub first_two : (kept rs qs : List JournalRecord) (bytes : List ℕ) → IsEitherGated kept rs bytes → IsOneOfThree kept rs qs bytes
first_two kept rs qs bytes (inl g) = inl (inr g)
first_two kept rs qs bytes (inr g) = inr (inl (inr g))

pub last_two : (kept rs qs : List JournalRecord) (bytes : List ℕ) → IsEitherGated rs qs bytes → IsOneOfThree kept rs qs bytes
last_two kept rs qs bytes (inl g) = inr (inl (inr g))
last_two kept rs qs bytes (inr g) = inr (inr (inr g))
