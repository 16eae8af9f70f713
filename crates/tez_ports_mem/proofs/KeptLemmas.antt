-- The bytes of a disk in memory.
--     kept_empty            with nothing pending all of the content is stable
--     kept_sound            a kept disk is sound
--     stable_saved          what a write covers is saved
--     kept_write            after a write
--     write_seen            what the disk is after it
--     picked_image          what a picker leaves is an image
--     picked_no_longer      and no longer than what a read gave
--     end_of, fill_step     one range is filled
use Rattle.std.specs.Prelude.{◌≡◌, ℕ, zero, suc, ◌+◌, ◌≤◌, ◌<◌, ◌-◌, ◌^◌, min, max, List, [], ◌∷◌, ◌++◌, length, take, drop, replicate, slice_get, refl}
use Rattle.std.specs.List.{AllByRecursion}
use Rattle.std.proofs.Common.{ap, sym, ◌∙◌, subst, arith, get_or, append_assoc, length-append, length-drop}
use Rattle.std.proofs.lemmas.List.{append-nil, take_all, take-take, take-append-le, length-take-le, length-replicate, at_drop_more}
use Rattle.tez_ports.specs.Image.{Range, Disk, IsOutside, IsImage, IsTorn, IsSound, greatest_end, overwrite, writes}
use Rattle.tez_ports.proofs.ImageLemmas.{image_torn, torn_overwrite}
use Rattle.tez_ports_mem.specs.declared.picker.Picker.{Picker}
use Rattle.tez_ports_mem.specs.declared.picker.Picker.TheVariants.{Keep, Drop, Fill}
use Rattle.tez_ports_mem.specs.Kept.{IsKept, stable_of, filled, picked}

pub stable_whole : (content : List ℕ) (n : ℕ) → n ≡ length content → stable_of n [] content ≡ content
stable_whole content n e = append-nil (take n content) ∙ take_all n content (omega arith)

same_image : (bytes : List ℕ) (pending : List Range) → IsImage bytes pending bytes
same_image bytes pending = record { outside = λ place b out. refl; no_shorter = omega arith; no_longer = omega arith }

kept_whole : (content : List ℕ) (n : ℕ) → n ≡ length content → length content < 2 ^ 62 → IsKept n [] [] content
kept_whole content n e l = record {
  shares = omega arith;
  behind = tt;
  inside = omega arith;
  image = subst (λ s. IsImage s [] content) (sym (stable_whole content n e)) (same_image content []);
  short = l;
}

-- so it is where nothing is pending
pub kept_empty : (n : ℕ) (tail content : List ℕ) (pending : List Range) → tail ≡ [] → pending ≡ [] → n ≡ length content → length content < 2 ^ 62 → IsKept n tail pending content
kept_empty n tail content pending t p e l = subst (λ ps. IsKept n tail ps content) (sym p) (subst (λ xs. IsKept n xs [] content) (sym t) (kept_whole content n e l))

pub kept_sound : (shared : ℕ) (tail : List ℕ) (pending : List Range) (content : List ℕ) → IsKept shared tail pending content
    → IsSound (record { stable = stable_of shared tail content; pending = pending; read = content })
kept_sound shared tail pending content k =
    let short = k.short in
    let inside = k.inside in
    let shorter = k.image.no_shorter in
    record { read_is_image = k.image; short = omega arith; short_pending = omega arith }

length_overwrite : (at : ℕ) (bytes old : List ℕ) → at ≤ length old → length (overwrite at bytes old) ≡ max (length old) (at + length bytes)
length_overwrite at bytes old l =
    let front : length (take at old) ≡ at = length-take-le at old l in
    omega (arith, length-append (take at old) bytes, length-append (take at old ++ bytes) (drop (at + length bytes) old), length-drop (at + length bytes) old)

take_overwrite : (n at : ℕ) (bytes old : List ℕ) → n ≤ at → at ≤ length old → take n (overwrite at bytes old) ≡ take n old
take_overwrite n at bytes old l k =
    let front : length (take at old) ≡ at = length-take-le at old k in
    ap (take n) (append_assoc (take at old) bytes (drop (at + length bytes) old)) ∙ take-append-le n (take at old) (bytes ++ drop (at + length bytes) old) (omega arith) ∙ take-take n at old l

-- the front of a list, up to one place and on to another
take_parts : (start shared : ℕ) (xs : List ℕ) → take (min shared start) xs ++ take (shared - start) (drop start xs) ≡ take shared xs
take_parts start zero xs = let low : min 0 start ≡ 0 = omega arith in let none : 0 - start ≡ 0 = omega arith in rw (low, none)
take_parts zero (suc shared) xs = let low : min (suc shared) 0 ≡ 0 = omega arith in let all : suc shared - 0 ≡ suc shared = omega arith in rw (low, all)
take_parts (suc start) (suc shared) [] = ap (λ xs. xs ++ take (suc shared - suc start) []) (take_all (min (suc shared) (suc start)) [] (omega arith)) ∙ take_all (suc shared - suc start) [] (omega arith)
take_parts (suc start) (suc shared) (x ∷ xs) =
    let low : min (suc shared) (suc start) ≡ suc (min shared start) = omega arith in
    let same : suc shared - suc start ≡ shared - start = omega arith in
    rw (low, same) (ap (λ ys. x ∷ ys) (take_parts start shared xs))

pub stable_saved : (shared start : ℕ) (tail bytes content : List ℕ) → start ≤ length content
    → stable_of (min shared start) (take (shared - start) (drop start content) ++ tail) (overwrite start bytes content) ≡ stable_of shared tail content
stable_saved shared start tail bytes content l =
    ap (λ xs. xs ++ (take (shared - start) (drop start content) ++ tail)) (take_overwrite (min shared start) start bytes content (omega arith) l)
    ∙ sym (append_assoc (take (min shared start) content) (take (shared - start) (drop start content)) tail)
    ∙ ap (λ xs. xs ++ tail) (take_parts start shared content)

still_behind : (lower shared : ℕ) (pending : List Range) → lower ≤ shared → AllByRecursion (λ range. shared ≤ range.0) pending → AllByRecursion (λ range. lower ≤ range.0) pending
still_behind lower shared [] l all = tt
still_behind lower shared (r ∷ rs) l all = (let high = all.0 in omega arith, still_behind lower shared rs l all.1)

-- what a write changes
pub record IsWritten (start shared lower : ℕ) (bytes tail saved content now : List ℕ) (pending ranges : List Range) : Type 0 where
  pub lower_is : lower ≡ min shared start
  pub saved_is : saved ≡ take (shared - start) (drop start content) ++ tail
  pub now_is : now ≡ overwrite start bytes content
  pub ranges_is : ranges ≡ (start, length bytes) ∷ pending

same_stable : (start shared lower : ℕ) (bytes tail saved content now : List ℕ) (pending ranges : List Range) → IsWritten start shared lower bytes tail saved content now pending ranges
    → start ≤ length content → stable_of lower saved now ≡ stable_of shared tail content
same_stable start shared lower bytes tail saved content now pending ranges w l =
    let parts = stable_saved shared start tail bytes content l in
    ap (λ n. stable_of n saved now) w.lower_is ∙ ap (λ t. stable_of (min shared start) t now) w.saved_is ∙ ap (stable_of (min shared start) (take (shared - start) (drop start content) ++ tail)) w.now_is ∙ parts

pub kept_write : (start shared lower : ℕ) (bytes tail saved content now : List ℕ) (pending ranges : List Range) → IsWritten start shared lower bytes tail saved content now pending ranges
    → IsKept shared tail pending content → start ≤ length content → start + length bytes < 2 ^ 62 → IsKept lower saved ranges now
kept_write start shared lower bytes tail saved content now pending ranges w k l fits =
    let long : length now ≡ max (length content) (start + length bytes) = ap length w.now_is ∙ length_overwrite start bytes content l in
    let low = w.lower_is in
    let inside = k.inside in
    let shares = k.shares in
    let short = k.short in
    let torn = subst (λ xs. IsTorn start (length bytes) content xs) (sym w.now_is) (torn_overwrite content bytes start l) in
    let image = image_torn (stable_of shared tail content) content now pending start (length bytes) k.image torn in
    record {
      shares = omega arith;
      behind = subst (AllByRecursion (λ range. lower ≤ range.0)) (sym w.ranges_is) (omega arith, still_behind lower shared pending (omega arith) k.behind);
      inside = let ends : greatest_end ranges ≡ max (start + length bytes) (greatest_end pending) = ap greatest_end w.ranges_is in omega arith;
      image = subst (λ rs. IsImage (stable_of lower saved now) rs now) (sym w.ranges_is)
          (subst (λ s. IsImage s ((start, length bytes) ∷ pending) now) (sym (same_stable start shared lower bytes tail saved content now pending ranges w l)) image);
      short = omega arith;
    }

-- the disk of these bytes
abbrev pub disk_of : ℕ → List ℕ → List Range → List ℕ → Disk
disk_of shared tail pending content = record { stable = stable_of shared tail content; pending = pending; read = content }

pub write_seen : (start shared lower : ℕ) (bytes tail saved content now : List ℕ) (pending ranges : List Range) → IsWritten start shared lower bytes tail saved content now pending ranges
    → start ≤ length content → disk_of lower saved ranges now ≡ writes start bytes (disk_of shared tail pending content)
write_seen start shared lower bytes tail saved content now pending ranges w l =
    let stable = same_stable start shared lower bytes tail saved content now pending ranges w l in
    let a = w.now_is in
    let b = w.ranges_is in
    cc

-- one range filled leaves the length, and the bytes outside it
part_length : (byte : ℕ) (range : Range) (bytes : List ℕ) → range.0 + range.1 ≤ length bytes → length (overwrite range.0 (replicate range.1 byte) bytes) ≡ length bytes
part_length byte range bytes l = let long = length_overwrite range.0 (replicate range.1 byte) bytes (omega arith) in let n = length-replicate range.1 byte in omega arith

part_outside : (byte place : ℕ) (range : Range) (bytes : List ℕ) → range.0 + range.1 ≤ length bytes → place < length bytes → IsOutside place range
    → slice_get (overwrite range.0 (replicate range.1 byte) bytes) place ≡ slice_get bytes place
part_outside byte place range bytes l b out =
    let n : length (replicate range.1 byte) ≡ range.1 = length-replicate range.1 byte in
    let torn = torn_overwrite bytes (replicate range.1 byte) range.0 (omega arith) in
    let image = image_torn bytes bytes (overwrite range.0 (replicate range.1 byte) bytes) [] range.0 (length (replicate range.1 byte)) (same_image bytes []) torn in
    image.outside place b (subst (λ m. IsOutside place (range.0, m)) (sym n) out, tt)

filled_length : (byte : ℕ) (ranges : List Range) (bytes : List ℕ) → greatest_end ranges ≤ length bytes → length (filled byte ranges bytes) ≡ length bytes
filled_length byte [] bytes l = refl
filled_length byte (r ∷ rs) bytes l =
    let one = part_length byte r bytes (omega arith) in
    filled_length byte rs (overwrite r.0 (replicate r.1 byte) bytes) (omega arith) ∙ one

filled_outside : (byte place : ℕ) (ranges : List Range) (bytes : List ℕ) → greatest_end ranges ≤ length bytes → place < length bytes → AllByRecursion (IsOutside place) ranges
    → slice_get (filled byte ranges bytes) place ≡ slice_get bytes place
filled_outside byte place [] bytes l b out = refl
filled_outside byte place (r ∷ rs) bytes l b out =
    let one = part_length byte r bytes (omega arith) in
    filled_outside byte place rs (overwrite r.0 (replicate r.1 byte) bytes) (omega arith) (omega arith) out.1 ∙ part_outside byte place r bytes (omega arith) b out.0

pub picked_image : (pick : Picker) (disk : Disk) → IsImage disk.stable disk.pending disk.read → greatest_end disk.pending ≤ length disk.read → IsImage disk.stable disk.pending (picked pick disk)
picked_image Keep disk is l = is
picked_image Drop disk is l = same_image disk.stable disk.pending
picked_image (Fill byte) disk is l =
    let long = filled_length byte disk.pending disk.read l in
    let low = is.no_shorter in
    let high = is.no_longer in
    record {
      outside = λ place b out. filled_outside byte place disk.pending disk.read l (omega arith) out ∙ is.outside place b out;
      no_shorter = omega arith;
      no_longer = omega arith;
    }

pub picked_no_longer : (pick : Picker) (disk : Disk) → IsImage disk.stable disk.pending disk.read → greatest_end disk.pending ≤ length disk.read → length (picked pick disk) ≤ length disk.read
picked_no_longer Keep disk is l = omega arith
picked_no_longer Drop disk is l = is.no_shorter
picked_no_longer (Fill byte) disk is l = let long = filled_length byte disk.pending disk.read l in omega arith

pub end_of : (ranges : List Range) (i : ℕ) (d : Range) → i < length ranges → (get_or ranges i d).0 + (get_or ranges i d).1 ≤ greatest_end ranges
end_of [] i d l = absurd (omega arith)
end_of (r ∷ rs) zero d l = omega arith
end_of (r ∷ rs) (suc i) d l = let rest = end_of rs i d (omega arith) in omega arith

pub fill_step : (byte : ℕ) (ranges : List Range) (i : ℕ) (d : Range) (bytes : List ℕ) → i < length ranges
    → filled byte (drop i ranges) bytes ≡ filled byte (drop (i + 1) ranges) (overwrite (get_or ranges i d).0 (replicate (get_or ranges i d).1 byte) bytes)
fill_step byte ranges i d bytes l = at_drop_more (λ rs. filled byte rs bytes) ranges i d l
