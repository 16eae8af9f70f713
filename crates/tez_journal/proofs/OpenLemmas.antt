-- What opening a journal does to its disk.
use Rattle.std.specs.Prelude.{◌≡◌, ℕ, ◌<◌, ◌≤◌, List, [], ◌∷◌, ◌++◌, length, take, drop, refl}
use Rattle.std.proofs.Common.{ap, sym, ◌∙◌, subst, arith, inl, inr, length-drop}
use Rattle.std.proofs.lemmas.List.{take_all, take_at}
use Rattle.tez_events.specs.declared.JournalRecord.{JournalRecord}
use Rattle.tez_ports.specs.Image.{Disk, Range, IsImage, IsSound, overwrite, pends, settled}
use Rattle.tez_ports.proofs.ImageLemmas.{image_unwritten}
use Rattle.tez_journal.specs.Text.{entries, IsGated, IsText}
use Rattle.tez_journal.specs.Crash.{Leaves, EndsAt, IsSafe}
use Rattle.tez_journal.proofs.TextLemmas.{small}
use Rattle.tez_journal.proofs.CrashLemmas.{settled_safe, settled_leaves}

-- a closed gate alone
pub fresh : (rs : List JournalRecord) (gate : ℕ) → rs ≡ [] → gate ≡ 0 → EndsAt gate rs (0 ∷ [])
fresh rs gate none first = (
  subst (IsGated (0 ∷ [])) (sym none) (record { fits = tt; gate = 0; rest = []; closed = λ e. omega arith; whole = refl }),
  first ∙ sym (ap (λ qs. length (entries qs)) none),
)

pub fresh_safe : (rs : List JournalRecord) (gate : ℕ) → rs ≡ [] → gate ≡ 0 → IsSafe gate rs rs (settled (0 ∷ []))
fresh_safe rs gate none first = settled_safe (0 ∷ []) rs gate (fresh rs gate none first)

pub fresh_read : (read : List ℕ) → length read ≤ 1 → overwrite 0 (0 ∷ []) read ≡ 0 ∷ []
fresh_read read short = none (drop 1 read) (omega (arith, length-drop 1 read)) where
  none : (rest : List ℕ) → length rest ≡ 0 → 0 ∷ rest ≡ 0 ∷ []
  none [] e = refl
  none (x ∷ xs) e = absurd (omega arith)

-- a byte at most is a journal of no records, and only of none
pub short_text : (bytes : List ℕ) (rs : List JournalRecord) → length bytes ≤ 1 → IsText bytes rs → rs ≡ []
short_text bytes rs short (inl none) = none.1
short_text bytes rs short (inr g) = small bytes rs short g

pub still_short : (old new : List ℕ) (rs : List JournalRecord) → length old ≤ 1 → length new ≤ 1 → IsText old rs → IsText new rs
still_short old new rs short brief text = inl (brief, short_text old rs short text)

pub long_text : (bytes : List ℕ) (rs : List JournalRecord) → 1 < length bytes → IsText bytes rs → IsGated bytes rs
long_text bytes rs long (inl none) = let short = none.0 in absurd (omega arith)
long_text bytes rs long (inr g) = g

-- ---- with nothing pending

abbrev disk_from : List ℕ → List Range → List ℕ → Disk
disk_from stable pending read = record { stable = stable; pending = pending; read = read }

settled_disk : (d : Disk) → IsSound d → d.pending ≡ [] → d ≡ settled d.read
settled_disk d sound none = parts where
  same : d.read ≡ d.stable
  same = image_unwritten d.stable d.read (subst (λ p. IsImage d.stable p d.read) none sound.read_is_image)

  parts : d ≡ settled d.read
  parts = ap (λ p. disk_from d.stable p d.read) none ∙ ap (λ s. disk_from s [] d.read) (sym same)

pub unwritten_safe : (d : Disk) (rs : List JournalRecord) (gate : ℕ) → IsSound d → d.pending ≡ [] → EndsAt gate rs d.read → IsSafe gate rs rs d
unwritten_safe d rs gate sound none ends = subst (IsSafe gate rs rs) (sym (settled_disk d sound none)) (settled_safe d.read rs gate ends)

pub unwritten_leaves : (d : Disk) (P : List ℕ → Type 0) → IsSound d → d.pending ≡ [] → P d.read → Leaves P d
unwritten_leaves d P sound none there = subst (Leaves P) (sym (settled_disk d sound none)) (settled_leaves d.read P there)

pub fresh_leaves : (d : Disk) (read : List ℕ) → IsSound d → d.pending ≡ [] → length d.read ≤ 1 → Leaves (λ image. length image ≤ 1) (pends (0, 1) read d)
fresh_leaves d read sound none short image is =
    let still : IsImage d.stable ((0, 1) ∷ []) image = subst (λ p. IsImage d.stable ((0, 1) ∷ p) image) none is in
    let stable : length d.stable ≡ length d.read = ap (λ (e : Disk). length e.stable) (settled_disk d sound none) in
    let long = still.no_longer in
    omega arith

-- what was read into n bytes is all there is to read
pub whole_read : (read into rest result : List ℕ) (m n : ℕ) → into ≡ take m read → m ≡ length read → result ≡ take n (into ++ rest) → n ≡ length read → result ≡ read
whole_read read into rest result m n filled all taken long =
    let same : into ≡ read = filled ∙ take_all m read (omega arith) in
    taken ∙ ap (λ w. take n (w ++ rest)) same ∙ take_at read rest n (sym long)
