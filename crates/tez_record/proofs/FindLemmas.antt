-- Bytes within bytes, by what a search tells.
use Rattle.std.proofs.Common.{◌≡◌, ℕ, zero, suc, ◌+◌, ◌<◌, ◌≤◌, ◌==◌, ◌||◌, Bool, true, false, List, [], ◌∷◌, length, take, drop, refl, sym, ap, ◌∙◌, arith, Option, Some, None, is_some, length-take}
use Rattle.std.specs.List.{starts_with}
use Rattle.std.specs.Bool.{nat_eq}
use Rattle.std.specs.Cmp.Lexicographic.{bytes_decides}
use Rattle.std.proofs.lemmas.Bool.{eqb-true, false_from_ne_true}
use Rattle.memchr.specs.Find.{FindsNeedle}
use Rattle.memchr.proofs.lemmas.MatchLemmas.{OccursAt-part, OccursAt-from_part}
use Rattle.tez_lists.proofs.Cases.{cases, both}
use Rattle.tez_record.specs.Find.{has_part}

or_left : (a b : Bool) → a ≡ true → (a || b) ≡ true
or_left a b h = grind arith

or_right : (a b : Bool) → b ≡ true → (a || b) ≡ true
or_right a b h = grind arith

-- bytes begin with the part where a piece of them is the part
begins : (bytes part : List ℕ) → take (length part) bytes ≡ part → starts_with nat_eq bytes part ≡ true
begins bytes part e = (bytes_decides part (take (length part) bytes)).1 (sym e)

pub piece : (bytes part : List ℕ) → starts_with nat_eq bytes part ≡ true → take (length part) bytes ≡ part
piece bytes part e = sym ((bytes_decides part (take (length part) bytes)).0 e)

piece_fits : (bytes part : List ℕ) → take (length part) bytes ≡ part → length part ≤ length bytes
piece_fits bytes part e = let same : length (take (length part) bytes) ≡ length part = ap length e in omega (arith, length-take (length part) bytes)

none_left : (part : List ℕ) → length part ≤ 0 → has_part [] part ≡ true
none_left [] h = refl
none_left (b ∷ part) h = absurd (omega arith)

found : (bytes part : List ℕ) (k : ℕ) → k + length part ≤ length bytes → take (length part) (drop k bytes) ≡ part → has_part bytes part ≡ true
found [] part k fits e = none_left part (omega arith)
found (b ∷ bytes) part zero fits e = or_left (starts_with nat_eq (b ∷ bytes) part) (has_part bytes part) (begins (b ∷ bytes) part e)
found (b ∷ bytes) part (suc k) fits e = or_right (starts_with nat_eq (b ∷ bytes) part) (has_part bytes part) (found bytes part k (omega arith) e)

record Place (bytes part : List ℕ) : Type 0 where
  at : ℕ
  fits : at + length part ≤ length bytes
  reads : take (length part) (drop at bytes) ≡ part

no_bytes : (part : List ℕ) → (length part == 0) ≡ true → Place [] part
no_bytes [] h = record { at = 0; fits = omega arith; reads = refl }
no_bytes (b ∷ part) h = let e : length (b ∷ part) ≡ 0 = eqb-true (length (b ∷ part)) 0 h in absurd (omega arith)

place_of : (bytes part : List ℕ) → has_part bytes part ≡ true → Place bytes part
place_of [] part h = no_bytes part h
place_of (b ∷ bytes) part h = cases (starts_with nat_eq (b ∷ bytes) part)
    (λ e. let is = piece (b ∷ bytes) part e in let low = piece_fits (b ∷ bytes) part is in record { at = 0; fits = omega arith; reads = is })
    (λ e.
    let later : has_part bytes part ≡ true = sym (ap (λ t. t || has_part bytes part) e) ∙ h in
    let p = place_of bytes part later in
    record { at = suc p.at; fits = omega (arith, p.fits); reads = p.reads })

-- what a search for the part answers
pub search_tells : (bytes part : List ℕ) (r : Option ℕ) (b : Bool) → FindsNeedle bytes part 0 r → b ≡ is_some r → b ≡ has_part bytes part
search_tells bytes part None b h e = e ∙ sym (false_from_ne_true (has_part bytes part) (λ is.
    let p = place_of bytes part is in
    h p.at (omega arith) (omega (arith, p.fits)) (OccursAt-from_part bytes part p.at p.fits p.reads)))
search_tells bytes part (Some k) b h e = e ∙ sym (found bytes part k h.1.fits (OccursAt-part bytes part k h.1))

-- a part at the front
pub here : (bytes part : List ℕ) → length part ≤ length bytes → starts_with nat_eq bytes part ≡ true → true ≡ has_part bytes part
here bytes part low e = sym (found bytes part 0 (omega arith) (piece bytes part e))

-- bytes that are left where it is not at the front
pub some_left : (bytes part : List ℕ) → length part ≤ length bytes → starts_with nat_eq bytes part ≡ false → 1 ≤ length bytes
some_left [] [] low e = both refl e
some_left [] (b ∷ part) low e = absurd (omega arith)
some_left (b ∷ bytes) part low e = omega arith

pub later : (bytes part : List ℕ) → length part ≤ length bytes → starts_with nat_eq bytes part ≡ false → has_part (drop 1 bytes) part ≡ has_part bytes part
later [] [] low e = both refl e
later [] (b ∷ part) low e = absurd (omega arith)
later (b ∷ bytes) part low e = sym (ap (λ t. t || has_part bytes part) e)

-- no part is longer than all
pub too_short : (bytes part : List ℕ) → length bytes < length part → false ≡ has_part bytes part
too_short bytes part low = sym (false_from_ne_true (has_part bytes part) (λ is. let p = place_of bytes part is in absurd (omega (arith, p.fits))))
